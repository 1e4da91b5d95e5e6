-- How the run of a text or an image on a console that buffers output is reported.
use Rattle.std.specs.Prelude.{◌≡◌, ◌⊎◌, ℕ, Bool, true, false, List, [], Option, Some}
use Rattle.risc_machine.specs.Console.{World}
use Rattle.risc_load.specs.declared.budget.Budget.{Budget}
use Rattle.ps_build.specs.declared.outcome.Outcome.{Outcome}
use Rattle.ps_build.specs.declared.outcome.Outcome.TheVariants.{OutputFault}
use Rattle.ps_build.specs.Runs.{RunsImage}
use Rattle.ps_build.specs.Goes.{Goes}
use Rattle.ps_build.specs.Slices.{IsImageLeft, IsGoLeft}

-- The end that is reported of a run: its own if nothing is held back, and a fault of the output if a write failed.
abbrev pub IsSettled : Option Outcome → Outcome → (held : List ℕ) → (has_failed : Bool) → Type 0
IsSettled end told held false = (end ≡ Some told) × (held ≡ [])
IsSettled end told held true = told ≡ OutputFault

-- Without a failure all output was written, and the run ended as reported. With one, the output is that of the run as
-- far as it came, except for what is still buffered.
abbrev pub GoesThrough : (text : List ℕ) → Budget → (steps : ℕ) → (old new : World) → (held : List ℕ)
    → (has_failed : Bool) → Outcome → Type 0
GoesThrough text budget steps old new held false outcome = Goes text budget steps old new outcome × (held ≡ [])
GoesThrough text budget steps old new held true outcome =
    (outcome ≡ OutputFault) × (IsGoLeft text budget steps old new
    ⊎ ((end : Outcome) × Goes text budget steps old new end))

-- the same of an image
abbrev pub RunsThrough : (image : List ℕ) → Budget → (steps : ℕ) → (old new : World) → (held : List ℕ)
    → (has_failed : Bool) → Outcome → Type 0
RunsThrough image budget steps old new held false outcome = RunsImage image budget steps old new outcome × (held ≡ [])
RunsThrough image budget steps old new held true outcome =
    (outcome ≡ OutputFault) × (IsImageLeft image budget steps old new
    ⊎ ((end : Outcome) × RunsImage image budget steps old new end))
