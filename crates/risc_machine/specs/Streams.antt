-- A reader and a writer as a console.
use Rattle.std.specs.Prelude.{ℕ, List, Option}
use Rattle.risc_machine.specs.declared.streams.Streams.{Streams}
use Rattle.risc_machine.specs.Console.{World}

abbrev pub reader_of : {R W : Type 0} → Streams R W → R
reader_of s = s.reader

abbrev pub writer_of : {R W : Type 0} → Streams R W → W
writer_of s = s.writer

abbrev pub faults_of : {R W : Type 0} → Streams R W → ℕ
faults_of s = s.faults

-- the bytes that the reader has left and that the writer holds, if these report them
abbrev pub streams_world : {R W : Type 0} → (R → Option (List ℕ)) → (W → Option (List ℕ)) → Streams R W → World
streams_world remaining contents s =
    record { input = remaining (reader_of s); output = contents (writer_of s); faults = faults_of s }
