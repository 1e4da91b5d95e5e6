-- What a job comes to, as its status says.
use Rattle.std.specs.Prelude.{◌≡◌, ◌⊎◌, ℕ, Bool, true, List, [], Result, Ok, Err, All, length}
use Rattle.risc_machine.specs.Console.{World, one_more}
use Rattle.risc_load.specs.declared.budget.Budget.{Budget}
use Rattle.ps_build.specs.Accepts.{IsRefused}
use Rattle.ps_build.specs.Goes.{IsGoRefused}
use Rattle.ps_build.specs.Headline.{Compiles}
use Rattle.ps_build.specs.Listed.{IsListed}
use Rattle.ps_build.specs.Runs.{IsRunRefused}
use Rattle.ps_build.specs.declared.outcome.Outcome.{Outcome}
use Rattle.ps_build.specs.declared.refusal.Refusal.{Refusal}
use Rattle.ps_needs_image.specs.Needed.{IsNeeded}
use Rattle.ps_needs_image.specs.declared.needed.Needed.{Needed}
use Rattle.pascal_cli.specs.Certificates.{SomeCertificate, SomeHolding}
use Rattle.pascal_command.specs.Command.{Limits, Request, Work, certify, check, compile, explain, go, go_standard_input}
use Rattle.pascal_command.specs.Command.{list, needs, request_in, run, verify, watch}
use Rattle.pascal_cli.specs.Explain.{has_page}
use Rattle.pascal_session.specs.Report.{status_of}
use Rattle.pascal_cli.specs.Runs.{GoesThrough, RunsThrough}
use Rattle.pascal_cli.specs.declared.image_file.Content.{Content}
use Rattle.pascal_cli.specs.declared.image_file.Content.TheVariants.{Image, Map}
use Rattle.pascal_command.specs.declared.job.Job.{Job}

abbrev pub limits_in : Job → Limits
limits_in job = (request_in job).limits

abbrev pub budget_of : Limits → Budget
budget_of limits = record { stack = limits.stack; heap = limits.heap }

-- the bytes are the image of a text
abbrev pub IsBuilt : List ℕ → Type 0
IsBuilt bytes = (text : List ℕ) × Compiles text bytes

-- what is written as an image is one
abbrev pub IsContent : Content → List ℕ → Type 0
IsContent Image bytes = IsBuilt bytes
IsContent Map bytes = Unit {0}

-- the text has an image
abbrev pub IsAccepted : List ℕ → Type 0
IsAccepted text = (bytes : List ℕ) × Compiles text bytes

-- this many texts are accepted
abbrev pub AreAccepted : ℕ → Type 0
AreAccepted count = (texts : List (List ℕ)) × (length texts ≡ count) × All IsAccepted texts

-- the text is refused
abbrev pub IsRefusedText : List ℕ → Type 0
IsRefusedText text = (refusal : Refusal) × IsRefused text refusal

-- a text is accepted, or refused
abbrev pub SomeAccepted : Type 0
SomeAccepted = (text : List ℕ) × IsAccepted text

abbrev pub SomeRefused : Type 0
SomeRefused = (text : List ℕ) × IsRefusedText text

-- the text has an image, and this is what it needs
abbrev pub HasNeeds : List ℕ → Type 0
HasNeeds text = (needed : Needed) × IsNeeded text needed

abbrev pub SomeNeeds : Type 0
SomeNeeds = (text : List ℕ) × HasNeeds text

-- ---- runs within limits: the end that is told, or why there was no run

abbrev pub EndsImage : (image : List ℕ) → Limits → (old new : World) → (held : List ℕ) → (has_failed : Bool)
    → Result Outcome Refusal → Type 0
EndsImage image limits old new held has_failed (Ok outcome) = RunsThrough image
    (budget_of limits) limits.steps old new held has_failed outcome
EndsImage image limits old new held has_failed (Err refusal) = IsRunRefused image (budget_of limits) refusal
    × (new ≡ old)

abbrev pub EndsText : (text : List ℕ) → Limits → (old new : World) → (held : List ℕ) → (has_failed : Bool)
    → Result Outcome Refusal → Type 0
EndsText text limits old new held has_failed (Ok outcome) = GoesThrough text
    (budget_of limits) limits.steps old new held has_failed outcome
EndsText text limits old new held has_failed (Err refusal) = IsGoRefused text (budget_of limits) refusal × (new ≡ old)

-- the status is that of the run of an image, and of that of a text
abbrev pub RanImage : (image : List ℕ) → Limits → (old new : World) → (held : List ℕ) → (has_failed : Bool) → ℕ → Type 0
RanImage image limits old new held has_failed status =
    (end : Result Outcome Refusal) × EndsImage image limits old new held has_failed end × (status ≡ status_of end)

abbrev pub RanText : (text : List ℕ) → Limits → (old new : World) → (held : List ℕ) → (has_failed : Bool) → ℕ → Type 0
RanText text limits old new held has_failed status =
    (end : Result Outcome Refusal) × EndsText text limits old new held has_failed end × (status ≡ status_of end)

pub record RanSomeImage (limits : Limits) (status : ℕ) : Type 0 where
  pub image : List ℕ
  pub old : World
  pub new : World
  pub held : List ℕ
  pub has_failed : Bool
  pub ran : RanImage image limits old new held has_failed status

pub record RanSomeText (limits : Limits) (status : ℕ) : Type 0 where
  pub text : List ℕ
  pub old : World
  pub new : World
  pub held : List ℕ
  pub has_failed : Bool
  pub ran : RanText text limits old new held has_failed status

-- a text was built, and its image was run
pub record RanOf (text : List ℕ) (limits : Limits) (status : ℕ) : Type 0 where
  pub image : List ℕ
  pub compiles : Compiles text image
  pub old : World
  pub new : World
  pub held : List ℕ
  pub has_failed : Bool
  pub ran : RanImage image limits old new held has_failed status

abbrev pub RanBuilt : Limits → ℕ → Type 0
RanBuilt limits status = (text : List ℕ) × RanOf text limits status

-- ---- jobs

-- The work was done, and this is its status. What is at a path isn't said here.
abbrev pub IsDone : Work → Limits → ℕ → Type 0
IsDone (compile source image) limits status = (status ≡ 0) × ((bytes : List ℕ) × IsBuilt bytes)
IsDone (list source) limits status = (status ≡ 0)
    × ((bytes : List ℕ) × (text : List ℕ) × IsBuilt bytes × IsListed bytes text)
IsDone (run image) limits status = RanSomeImage limits status
IsDone (go source) limits status = RanSomeText limits status ⊎ RanBuilt limits status
IsDone go_standard_input limits status = RanSomeText limits status
IsDone (explain topic) limits status = (status ≡ 0) × ((topic ≡ []) ⊎ (has_page topic ≡ true))
IsDone (check files) limits status = (status ≡ 0) × AreAccepted (length files)
IsDone (certify source image) limits status = (status ≡ 0) × SomeCertificate
IsDone (verify certificate source image) limits status = (status ≡ 0) × SomeHolding
IsDone (needs source) limits status = (status ≡ 0) × SomeNeeds
IsDone (watch how source) limits status = RanBuilt limits status

-- the request was done, or it failed
abbrev pub IsStatus : Request → ℕ → Type 0
IsStatus request status = (status ≡ 1) ⊎ IsDone request.work request.limits status

-- ---- what is written

-- All was written, or a write failed, which is counted.
abbrev pub IsWritten : (status : ℕ) → (appended : Type 0) → (old new : ℕ) → Type 0
IsWritten status appended old new = ((status ≡ 0) × appended × (new ≡ old)) ⊎ ((status ≡ 1) × (new ≡ one_more old))

abbrev pub status_of_write : {T E : Type 0} → Result T E → ℕ
status_of_write (Ok value) = 0
status_of_write (Err fault) = 1
