-- How a run ends.
use Rattle.std.specs.Prelude.{ℕ, nat_eq, if◌then◌else◌, List, [], take}

-- what a processor could not do, or a stop whose link is in no trap table
pub data FaultKind : Type 0 where
  BadWord : FaultKind
  BadAddress : FaultKind
  BadDivisor : FaultKind
  BadJump : FaultKind
  UnknownTrap : FaultKind

-- Lines are those of the program's text.
pub data Ending : Type 0 where
  -- the count of steps is used up
  More : Ending
  Normal : Ending
  -- an error of the language, 1 to 11, at the line of its token, with the lines of the calls that are open at it
  Error : (number line : ℕ) → (calls : List ℕ) → Ending
  -- The bytes of the open frames would pass the stack: error 12, at the `begin` of the block that would be entered.
  Stack : (line : ℕ) → Ending
  -- The bytes of the objects would pass the heap: error 13, at the name `new`.
  Heap : (line : ℕ) → Ending
  -- a machine fault
  Fault : FaultKind → Ending
  -- No rule of the meaning says what comes next.
  Stuck : Ending

-- an error while these calls are open, innermost first: the first 16 are reported
abbrev pub failed : (number line : ℕ) → (calls : List ℕ) → Ending
failed number line calls = Error number line (take 16 calls)

-- the ending for the number of an error
abbrev pub ending_by : (number line : ℕ) → (calls : List ℕ) → Ending
ending_by number line calls =
    if nat_eq number 12 then Stack line else if nat_eq number 13 then Heap line else failed number line calls

-- the calls that an ending reports
abbrev pub calls_of : Ending → List ℕ
calls_of (Error number line calls) = calls
calls_of _ = []

abbrev pub IsMore : Ending → Type 0
IsMore More = Unit {0}
IsMore _ = ⊥

-- a stop for stack or heap
abbrev pub IsStop : Ending → Type 0
IsStop (Stack line) = Unit {0}
IsStop (Heap line) = Unit {0}
IsStop _ = ⊥
