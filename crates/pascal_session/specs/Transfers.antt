-- Readers and writers with the count of their failures.
use Rattle.std.specs.Prelude.{◌≡◌, ℕ, ◌<◌, ◌≤◌, List, length, take, Result, Ok, Err, Option}
use Rattle.std.specs.Io.KnownBytes.{Appends, Consumes}
use Rattle.risc_machine.specs.Console.{one_more}
use Rattle.pascal_session.specs.declared.counted.Counted.{Counted}
use Rattle.pascal_session.specs.declared.transfer.ReadFault.{ReadFault}
use Rattle.pascal_session.specs.declared.transfer.ReadFault.TheVariants.{Device, OutOfMemory}

abbrev pub device_of : {D : Type 0} → Counted D → D
device_of c = c.device

abbrev pub faults_of : {D : Type 0} → Counted D → ℕ
faults_of c = c.faults

-- the count rises by one with a failure, and otherwise stays
abbrev pub Counts : {T E : Type 0} → Result T E → ℕ → ℕ → Type 0
Counts (Ok value) old new = new ≡ old
Counts (Err fault) old new = new ≡ one_more old

-- the same for a whole text or image: only `Device` reports a failure
abbrev pub CountsRead : {T : Type 0} → Result T ReadFault → ℕ → ℕ → Type 0
CountsRead (Ok value) old new = new ≡ old
CountsRead (Err Device) old new = new ≡ one_more old
CountsRead (Err OutOfMemory) old new = new ≡ old

-- before the failure at most this many bytes were read
abbrev pub TakesUpTo : ReadFault → ℕ → Option (List ℕ) → Option (List ℕ) → Type 0
TakesUpTo Device limit old new = (bytes : List ℕ) × (length bytes ≤ limit) × Consumes old new bytes
TakesUpTo OutOfMemory limit old new = Unit {0}

-- some of the first of the bytes were appended, not all, and none only with a failure
abbrev pub AppendsFront : (old new : Option (List ℕ)) → List ℕ → (faults after : ℕ) → Type 0
AppendsFront old new bytes faults after = (count : ℕ) × (count < length bytes) × Appends old new (take count bytes)
    × (count ≡ 0 → after ≡ one_more faults)
