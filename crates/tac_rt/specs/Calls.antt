-- What a call of a run-time routine assumes.
use Rattle.std.specs.Prelude.{◌≡◌, ℕ, ◌+◌, ◌<◌, List, [], ◌∷◌, Some}
use Rattle.tac_code.specs.declared.code.Block.{Block}
use Rattle.tac_code.specs.Memory.{Memory, Constants, load_byte}
use Rattle.tac_code_steps.specs.Runs.{Machine}
use Rattle.tac_rt.specs.Bodies.{run_time_routines}

-- the run-time routines come after the program's
abbrev pub HasRoutines : Machine → Type 0
HasRoutines m = m.code.run_time ≡ run_time_routines

-- these bytes are in a block from an offset on
abbrev pub BytesAt : Constants → Memory → Block → (offset : ℕ) → List ℕ → Type 0
BytesAt constants memory block o [] = Unit {0}
BytesAt constants memory block o (b ∷ bytes) = (load_byte constants memory block o ≡ Some b) × (b < 256)
    × BytesAt constants memory block (o + 1) bytes
