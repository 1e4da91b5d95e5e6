-- The console of a run, which holds output and hands it on in blocks.
use Rattle.std.specs.Prelude.{◌≡◌, ℕ, Bool, true, false, List, Option, Result, Ok, Err}
use Rattle.std.specs.Io.KnownBytes.{append_known}
use Rattle.risc_machine.specs.Console.{World, one_more}
use Rattle.pascal_session.specs.declared.console.BlockConsole.{BlockConsole}
use Rattle.pascal_session.specs.declared.counted.Counted.{Counted}
use Rattle.pascal_session.specs.declared.ahead.Ahead.{Ahead}
use Rattle.pascal_session.specs.Ahead.{ahead_bytes, counted_of}
use Rattle.pascal_session.specs.Transfers as transfer
use Rattle.pascal_session.specs.Transfers.{device_of}

abbrev pub input_of : {R W : Type 0} → BlockConsole R W → Ahead R
input_of c = c.input

abbrev pub writer_of : {R W : Type 0} → BlockConsole R W → Counted W
writer_of c = c.writer

-- what was put and not written yet
abbrev pub held_of : {R W : Type 0} → BlockConsole R W → List ℕ
held_of c = c.held.items

-- a write failed
abbrev pub has_failed : {R W : Type 0} → BlockConsole R W → Bool
has_failed c = c.has_failed

abbrev pub faults_of : {R W : Type 0} → BlockConsole R W → ℕ
faults_of c = c.faults

-- what the writer has, if it reports that, followed by what is buffered
abbrev pub output_of : {R W : Type 0} → (W → Option (List ℕ)) → BlockConsole R W → Option (List ℕ)
output_of contents c = append_known (contents (device_of (writer_of c))) (held_of c)

-- the bytes that are left of the input, and the output
abbrev pub console_world : {R W : Type 0} → (R → Option (List ℕ)) → (W → Option (List ℕ)) → BlockConsole R W → World
console_world remaining contents c =
    record { input = ahead_bytes remaining (input_of c); output = output_of contents c; faults = faults_of c }

-- the failures of the reader, and those of the writer
abbrev pub read_faults_of : {R W : Type 0} → BlockConsole R W → ℕ
read_faults_of c = transfer.faults_of (counted_of (input_of c))

abbrev pub write_faults_of : {R W : Type 0} → BlockConsole R W → ℕ
write_faults_of c = transfer.faults_of (writer_of c)

-- one failure was counted if one is reported: of the writer if a write is known to have failed, otherwise of the reader
abbrev pub CountsOne : {T E R W : Type 0} → Result T E → (old new : BlockConsole R W) → Type 0
CountsOne (Ok value) old new = (read_faults_of new ≡ read_faults_of old) × (write_faults_of new ≡ write_faults_of old)
CountsOne (Err fault) old new =
    (has_failed new ≡ true → (read_faults_of new ≡ read_faults_of old)
    × (write_faults_of new ≡ one_more (write_faults_of old)))
    × (has_failed new ≡ false → (read_faults_of new ≡ one_more (read_faults_of old))
    × (write_faults_of new ≡ write_faults_of old))
