-- Runs of three-address code, put together: code at a place, and how a run gets from one state to another or to its
-- end.
use Rattle.std.specs.Prelude.{◌≡◌, ℕ, suc, ◌<◌, ◌≤◌, List, [], ◌∷◌, Some}
use Rattle.behavior.specs.Endings.{IsMore}
use Rattle.behavior.specs.Transcripts.{Shown}
use Rattle.tac_code.specs.declared.code.Instruction.{Instruction}
use Rattle.tac_code.specs.Meaning.{Code, State, Step, fetch, step}
use Rattle.tac_code.specs.Run.{run}
use Rattle.tac_code_steps.specs.Turns.{turns}

-- code, with what it costs and what it may use
pub record Machine : Type 0 where
  pub code : Code
  pub frames : ℕ → ℕ
  pub objects : ℕ → ℕ
  pub stack : ℕ
  pub heap : ℕ

abbrev pub step_of : Machine → State → Step
step_of m s = step m.code m.frames m.objects m.stack m.heap s

abbrev pub runs : Machine → ℕ → State → Shown
runs m k s = run m.code m.frames m.objects m.stack m.heap k s

-- how many of the next k instructions turn aside
abbrev pub turns_by : Machine → ℕ → State → ℕ
turns_by m k s = turns m.code m.frames m.objects m.stack m.heap k s

-- these are the instructions of a routine from one place to another
abbrev pub Stands : Code → (routine place : ℕ) → List Instruction → ℕ → Type 0
Stands code r pc [] pc' = pc ≡ pc'
Stands code r pc (i ∷ is) pc' = (fetch code r pc ≡ Some i) × Stands code r (suc pc) is pc'

-- from one state to another, with one turn or more
pub record Leads (m : Machine) (s s' : State) : Type 0 where
  pub by : (k : ℕ) → (j : ℕ) × (runs m j s ≡ runs m k s') × (turns_by m k s' < turns_by m j s)

-- the same, or with none
pub record Comes (m : Machine) (s s' : State) : Type 0 where
  pub by : (k : ℕ) → (j : ℕ) × (runs m j s ≡ runs m k s') × (turns_by m k s' ≤ turns_by m j s)

-- this is shown; if it is not an end, after n turns or more
pub record Stops (m : Machine) (n : ℕ) (s : State) (shown : Shown) : Type 0 where
  pub by : (j : ℕ) × (runs m j s ≡ shown) × (IsMore shown.1 → n ≤ turns_by m j s)
