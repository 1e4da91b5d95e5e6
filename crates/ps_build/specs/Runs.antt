-- What a run of an image over a console does.
use Rattle.std.specs.Prelude.{◌≡◌, ℕ, ◌<◌, nat_eq, if◌then◌else◌, List, Option, Some, None, option_map}
use Rattle.std.specs.Io.KnownBytes.{Appends}
use Rattle.behavior.specs.Endings as ending
use Rattle.behavior.specs.Transcripts.{output, AreBytes}
use Rattle.risc_machine.specs.Console.{World, one_more}
use Rattle.risc_machine.specs.declared.stop.Stop.{Stop}
use Rattle.risc_machine.specs.declared.stop.Stop.TheVariants as m
use Rattle.risc_machine.specs.Step.{State}
use Rattle.risc_machine.specs.Exec.{Tape, fresh, row_at, fault_kind}
use Rattle.risc_machine.specs.Exec as exec
use Rattle.risc_image.specs.Image.{Image}
use Rattle.risc_image.specs.Format.{IsImage}
use Rattle.risc_image.specs.Refusal.{IsRefused}
use Rattle.risc_load.specs.declared.budget.Budget.{Budget}
use Rattle.risc_load.specs.declared.budget.LoadRefusal.TheVariants as l
use Rattle.risc_load.specs.Refusal as load
use Rattle.risc_load.specs.Loaded.{loaded_state}
use Rattle.risc_image.specs.declared.refusal.ImageRefusal.TheVariants as i
use Rattle.ps_build.specs.declared.refusal.Refusal.{Refusal}
use Rattle.ps_build.specs.declared.refusal.Refusal.TheVariants.{OutOfMemory, Magic, Truncated, Trailing, TooLarge}
use Rattle.ps_build.specs.declared.refusal.Refusal.TheVariants.{BadTable, BudgetTooLarge, BudgetUneven}
use Rattle.ps_build.specs.declared.outcome.Outcome.{Outcome}
use Rattle.ps_build.specs.declared.outcome.Outcome.TheVariants.{Normal, Error, Stack, Heap, Steps, InputFault}
use Rattle.ps_build.specs.declared.outcome.Outcome.TheVariants.{OutputFault, Fault}
use Rattle.risc_load.specs.Shows.{trap_rows, IsBudget}
use Rattle.risc_emit_laws.specs.Outcome.{image_outcome}
use Rattle.risc_emit_trail.specs.Told.{trail_of}
use Rattle.ps_build.specs.declared.outcome.FaultKind.TheVariants.{UnknownTrap}
use Rattle.ps_build.specs.Faults.{kind_told}
use Rattle.ps_build.specs.Devices.{reached, AsksInput, AsksOutput}

-- the lines of the open calls in the form of an outcome: none for an image without a call table
abbrev pub trail_told : Image → List ℕ → Option (List ℕ)
trail_told image calls = option_map (λ rows. calls) image.calls

-- The outcome that reports an ending of an image. No run of an image is stuck.
abbrev pub outcome_told : Image → ending.Ending → Option Outcome
outcome_told image ending.More = Some Steps
outcome_told image ending.Normal = Some Normal
outcome_told image (ending.Error number line calls) = Some (Error number line (trail_told image calls))
outcome_told image (ending.Stack line) = Some (Stack 12 line)
outcome_told image (ending.Heap line) = Some (Heap 13 line)
outcome_told image (ending.Fault kind) = Some (Fault (kind_told kind))
outcome_told image ending.Stuck = None

-- the loaded machine and its tape after at most n steps
abbrev pub stands_at : Image → Budget → List ℕ → ℕ → State × Tape
stands_at image budget input steps = reached steps (loaded_state image budget) (fresh input)

-- after `steps` steps the console was given what the image shows, if it reports its output, and has left what the image
-- has not taken
pub record Moved (image : Image) (budget : Budget) (input : List ℕ) (before : Option (List ℕ)) (steps : ℕ)
    (after : World) : Type 0 where
  pub written : Appends before after.output (output (image_outcome image budget.heap budget.stack input steps).0)
  pub left : after.input ≡ Some (stands_at image budget input steps).1.input

-- No device failed: the console is as the image leaves it after n steps, and the outcome reports how the image ends.
pub record Ends (image : Image) (budget : Budget) (n : ℕ) (input : List ℕ) (before : Option (List ℕ)) (after : World)
    (outcome : Outcome) : Type 0 where
  pub moved : Moved image budget input before n after
  pub ending : outcome_told image (image_outcome image budget.heap budget.stack input n).1 ≡ Some outcome

-- A device failed: the console is as the image leaves it after fewer steps, and the next step uses just that device. So
-- nothing that was written before is held back or lost, and nothing was read that the image had not requested.
pub record Breaks (Asks : State → Type 0) (image : Image) (budget : Budget) (n : ℕ) (input : List ℕ)
    (before : Option (List ℕ)) (after : World) : Type 0 where
  pub steps : ℕ
  pub fewer : steps < n
  pub running : (image_outcome image budget.heap budget.stack input steps).1 ≡ ending.More
  pub asking : Asks (stands_at image budget input steps).0
  pub moved : Moved image budget input before steps after

abbrev pub Tells : Outcome → Image → Budget → ℕ → (input : List ℕ) → (before : Option (List ℕ)) → World → Type 0
Tells InputFault image budget n input before after = Breaks AsksInput image budget n input before after
Tells OutputFault image budget n input before after = Breaks AsksOutput image budget n input before after
Tells Normal image budget n input before after = Ends image budget n input before after Normal
Tells (Error number line trail) image budget n input before after = Ends image budget n input before after
    (Error number line trail)
Tells (Stack number line) image budget n input before after = Ends image budget n input before after (Stack number line)
Tells (Heap number line) image budget n input before after = Ends image budget n input before after (Heap number line)
Tells Steps image budget n input before after = Ends image budget n input before after Steps
Tells (Fault kind) image budget n input before after = Ends image budget n input before after (Fault kind)

-- the count of faults rises by one if a device failed, and otherwise stays
abbrev pub CountsFaults : Outcome → World → World → Type 0
CountsFaults InputFault old new = new.faults ≡ one_more old.faults
CountsFaults OutputFault old new = new.faults ≡ one_more old.faults
CountsFaults Normal old new = new.faults ≡ old.faults
CountsFaults (Error number line trail) old new = new.faults ≡ old.faults
CountsFaults (Stack number line) old new = new.faults ≡ old.faults
CountsFaults (Heap number line) old new = new.faults ≡ old.faults
CountsFaults Steps old new = new.faults ≡ old.faults
CountsFaults (Fault kind) old new = new.faults ≡ old.faults

-- the outcome of a stop by a row of the trap table, with these calls open
abbrev pub trap_told : Option (ℕ × ℕ × ℕ) → (trail : Option (List ℕ)) → Outcome
trap_told None trail = Fault UnknownTrap
trap_told (Some row) trail =
    if nat_eq row.1 12 then Stack 12 row.2 else if nat_eq row.1 13 then Heap 13 row.2 else Error row.1 row.2 trail

-- what an outcome reports for a stop that the image's machine was left in
abbrev pub IsToldBy : Image → State → Stop → Outcome → Type 0
IsToldBy image left m.Normal outcome = outcome ≡ Normal
IsToldBy image left (m.Trap link) outcome = outcome ≡ trap_told (row_at link (trap_rows image)) (trail_of image left)
IsToldBy image left m.Steps outcome = outcome ≡ Steps
IsToldBy image left m.InputFault outcome = outcome ≡ InputFault
IsToldBy image left m.OutputFault outcome = outcome ≡ OutputFault
IsToldBy image left (m.Fault kind) outcome = outcome ≡ Fault (kind_told (fault_kind kind))

-- what is known now of bytes that were known before
abbrev pub if_known : (before : Option (List ℕ)) → Option (List ℕ) → Option (List ℕ)
if_known None now = None
if_known (Some bytes) now = now

-- what is seen of a console after a run: what it reported before it, and its count of faults
abbrev pub as_seen : (old new : World) → World
as_seen old new =
    record { input = if_known old.input new.input; output = if_known old.output new.output; faults = new.faults }

-- The loaded machine came within n steps to a stop that the outcome reports, over any console. What isn't seen of the
-- console may be any: so over input that it doesn't report, each byte taken may be any, or the end.
pub record Made (image : Image) (budget : Budget) (n : ℕ) (old new : World) (outcome : Outcome) : Type 0 where
  pub left : State
  pub stop : Stop
  pub steps : exec.Runs n (loaded_state image budget) old left (as_seen old new) stop
  pub reports : IsToldBy image left stop outcome

-- The budget loads the image, and a machine ran it for at most n steps. On a console that reports its input the outcome
-- and what was taken are what the image shows, and where it reports its output too, so is what was written.
pub record Runs (image : Image) (budget : Budget) (n : ℕ) (old new : World) (outcome : Outcome) : Type 0 where
  pub loaded : IsBudget image budget.heap budget.stack
  pub made : Made image budget n old new outcome
  pub told : (input : List ℕ) → AreBytes input → old.input ≡ Some input
      → Tells outcome image budget n input old.output new
  pub faults : CountsFaults outcome old new

-- The bytes are this one image, which was run so.
pub record RunsImage (bytes : List ℕ) (budget : Budget) (n : ℕ) (old new : World) (outcome : Outcome) : Type 0 where
  pub image : Image
  pub is_image : IsImage bytes image
  pub only : (other : Image) → IsImage bytes other → image ≡ other
  pub runs : Runs image budget n old new outcome

-- why an image isn't loaded under a budget; out of memory is reported only for a budget that fits
abbrev pub IsLoadRefused : Image → Budget → Refusal → Type 0
IsLoadRefused image budget OutOfMemory = IsBudget image budget.heap budget.stack
IsLoadRefused image budget BudgetTooLarge = load.IsRefused image budget l.BudgetTooLarge
IsLoadRefused image budget BudgetUneven = load.IsRefused image budget l.BudgetUneven
IsLoadRefused image budget _ = ⊥

-- the same for the image that bytes are
pub record IsBudgetRefused (bytes : List ℕ) (budget : Budget) (refusal : Refusal) : Type 0 where
  pub image : Image
  pub is_image : IsImage bytes image
  pub refused : IsLoadRefused image budget refusal

-- why bytes aren't run under a budget: the first check of the format that they fail, and otherwise the budget
abbrev pub IsRunRefused : List ℕ → Budget → Refusal → Type 0
IsRunRefused bytes budget OutOfMemory = IsBudgetRefused bytes budget OutOfMemory
IsRunRefused bytes budget Magic = IsRefused bytes i.Magic
IsRunRefused bytes budget Truncated = IsRefused bytes i.Truncated
IsRunRefused bytes budget Trailing = IsRefused bytes i.Trailing
IsRunRefused bytes budget TooLarge = IsRefused bytes i.TooLarge
IsRunRefused bytes budget BadTable = IsRefused bytes i.BadTable
IsRunRefused bytes budget BudgetUneven = IsBudgetRefused bytes budget BudgetUneven
IsRunRefused bytes budget BudgetTooLarge = IsBudgetRefused bytes budget BudgetTooLarge
IsRunRefused bytes budget _ = ⊥
