-- The headline over the meaning without budgets, and what follows from it for the machine.
use Rattle.std.specs.Prelude.{◌≡◌, ◌≢◌, ℕ, ◌<◌, List, length, Some}
use Rattle.behavior.specs.Endings as ending
use Rattle.behavior.specs.Transcripts.{AreBytes}
use Rattle.behavior.specs.Laws.{Stopped}
use Rattle.risc_machine.specs.Console.{World}
use Rattle.risc_image.specs.Image.{Image}
use Rattle.risc_load.specs.declared.budget.Budget.{Budget}
use Rattle.risc_load.specs.Shows.{IsBudget}
use Rattle.risc_emit_laws.specs.Outcome.{image_outcome}
use Rattle.risc_emit_laws.specs.Plan.{frame_cost}
use Rattle.ps_tree.specs.Tree.{Program}
use Rattle.ps_meaning.specs.Run.{run}
use Rattle.risc_image.specs.Format.{IsImage}
use Rattle.ps_lower_code.specs.Programs.{code_of}
use Rattle.ps_lower_laws.specs.Fits.{ProgramFits}
use Rattle.tac_rt.specs.Bodies.{run_time_routines}
use Rattle.tac_code.specs.Meaning.{Code}
use Rattle.tac_pass_laws.specs.Passed.{IsPassed}
use Rattle.ps_build.specs.Accepts.{IsProgramOf}
use Rattle.ps_build.specs.declared.outcome.FaultKind.{FaultKind}
use Rattle.ps_build.specs.declared.outcome.Outcome.{Outcome}
use Rattle.ps_build.specs.declared.outcome.Outcome.TheVariants.{Fault}
use Rattle.ps_build.specs.Goes.{Goes}
use Rattle.ps_build.specs.Headline.{DoesAsMeant, Compiles}
use Rattle.ps_build.specs.Made.{IsCodeOf, IsMadeOf, IsBuilt}

-- An image that does what a program means shows all that the program shows without costs and budgets, or is stopped for
-- stack or heap on the way to it; and all that the image shows is the program's, or a prefix of it. If the image ends
-- otherwise than by a stop, it shows just what the program shows.
abbrev pub ComesToTheMeaning : Type 0
ComesToTheMeaning = (checked : Program) (image : Image) → DoesAsMeant checked image → (heap stack : ℕ)
    → IsBudget image heap stack → (input : List ℕ) → AreBytes input → Stopped (run checked input)
    (image_outcome image heap stack input)

-- An image that does what the program of a text means never reaches a machine fault, under any budget and on any input
-- of bytes: the processor can always go on, and no stop has a link that isn't in the image's trap table.
abbrev pub NeverFaults : Type 0
NeverFaults = (text bytes : List ℕ) → AreBytes text → (compiles : Compiles text bytes) → (heap stack : ℕ)
    → IsBudget compiles.image heap stack → (input : List ℕ) → AreBytes input → (steps : ℕ) (kind : ending.FaultKind)
    → (image_outcome compiles.image heap stack input steps).1 ≢ ending.Fault kind

-- the console reports its input
pub record TellsInput (world : World) : Type 0 where
  pub input : List ℕ
  pub bytes : AreBytes input
  pub left : world.input ≡ Some input

-- So no text that was built and run over such a console reaches one.
abbrev pub GoesWithoutFault : Type 0
GoesWithoutFault = (text : List ℕ) (budget : Budget) (n : ℕ) (old new : World) (outcome : Outcome) → AreBytes text
    → Goes text budget n old new outcome → TellsInput old → (kind : FaultKind) → outcome ≢ Fault kind

-- The three-address code of a program that has all that the lowering needs, followed by the run-time routines, does
-- what the program means.
abbrev pub CodeDoes : Type 0
CodeDoes = (checked : Program) → ProgramFits checked → IsCodeOf checked (code_of run_time_routines checked)

-- So does code made from it by a pass that may replace it.
abbrev pub PassedCodeDoes : Type 0
PassedCodeDoes = (checked : Program) → ProgramFits checked → (code : Code) → IsPassed
    (code_of run_time_routines checked) code → IsCodeOf checked code

-- An image that was made through three-address code does what its program means: the runs of the program, of its code
-- and of its image are the same.
abbrev pub MadeCompiles : Type 0
MadeCompiles = (text bytes : List ℕ) (checked : Program) (image : Image) → IsProgramOf text checked
    → IsImage bytes image → IsMadeOf checked image → Compiles text bytes

-- Two images that were built of one text, wherever its variables are, charge the same for an activation of each routine.
abbrev pub FramesAreOfTheText : Type 0
FramesAreOfTheText = (text bytes bytes' : List ℕ) → (one : IsBuilt text bytes) → (other : IsBuilt text bytes')
    → (r : ℕ) → r < length one.code.program → frame_cost one.emitted.image r ≡ frame_cost other.emitted.image r
