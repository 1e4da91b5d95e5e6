-- Laws of runs: how the run within costs and a budget relates to the run without, and how runs grow with the fuel.
use Rattle.std.specs.Prelude.{◌≡◌, ℕ, ◌+◌, List}
use Rattle.behavior.specs.Endings.{Error, IsStop}
use Rattle.behavior.specs.Transcripts.{GoesOn}
use Rattle.behavior.specs.Same.{Grows}
use Rattle.ps_tree.specs.Tree.{Program}
use Rattle.ps_meaning.specs.Run.{run, run_within}

-- the run within costs and a budget equals the run without, or is stopped for stack or heap after a prefix of its
-- transcript
abbrev pub LimitsOnlyStop : Type 0
LimitsOnlyStop = (program : Program) (F G : List ℕ) (S H : ℕ) (input : List ℕ) (n : ℕ) → GoesOn IsStop
    (run_within program F G S H input n) (run program input n)

-- a run that costs nothing is never stopped
abbrev pub FreeNeverStops : Type 0
FreeNeverStops = (program : Program) (input : List ℕ) (n : ℕ) → IsStop (run program input n).1 → ⊥

-- with more fuel, a run that has ended stays as it is, and one that has not goes on
abbrev pub FuelOnlyExtends : Type 0
FuelOnlyExtends = (program : Program) (F G : List ℕ) (S H : ℕ) (input : List ℕ) → Grows
    (run_within program F G S H input)

-- An error within a budget is the error of the run without one, with the same calls open, and more fuel keeps it.
abbrev pub ErrorsStay : Type 0
ErrorsStay = (program : Program) (F G : List ℕ) (S H : ℕ) (input : List ℕ) (n k : ℕ) (transcript : List ℕ)
    (number line : ℕ) (calls : List ℕ)
    → run_within program F G S H input n ≡ (transcript, Error number line calls)
    → (run_within program F G S H input (n + k) ≡ (transcript, Error number line calls))
    × (run program input (n + k) ≡ (transcript, Error number line calls))
