-- Runs of images that were built.
use Rattle.std.proofs.Common.{◌≡◌, ℕ, Bool, List, Ok, Err, subst}
use Rattle.risc_machine.specs.Console.{World}
use Rattle.risc_load.specs.declared.budget.Budget.{Budget}
use Rattle.ps_build.specs.Headline.{Compiles}
use Rattle.ps_build.specs.Runs.{IsRunRefused}
use Rattle.ps_build.specs.declared.outcome.Outcome.{Outcome}
use Rattle.ps_build.specs.declared.refusal.Refusal.{Refusal}
use Rattle.pascal_command.specs.Command.{Limits}
use Rattle.pascal_cli.specs.Jobs.{RanImage, RanOf, budget_of}
use Rattle.pascal_session.specs.Report.{status_of}
use Rattle.pascal_cli.specs.Runs.{RunsThrough}

pub ran_of : (text bytes : List ℕ) (limits : Limits) (old new : World) (held : List ℕ) (failed : Bool) (status : ℕ)
    → Compiles text bytes → RanImage bytes limits old new held failed status → RanOf text limits status
ran_of text bytes limits old new held failed status compiles ran = record {
  image = bytes;
  compiles = compiles;
  old = old;
  new = new;
  held = held;
  has_failed = failed;
  ran = ran;
}

module _ (image bytes : List ℕ) (limits : Limits) (budget : Budget) (old new : World) (held : List ℕ) (failed : Bool)
    (status : ℕ) where
  -- a run that ended, of an image that was read so and with such a budget
  pub ended_ok : (outcome : Outcome) → bytes ≡ image → budget ≡ budget_of limits → RunsThrough bytes budget limits.steps
      old new held failed outcome → status ≡ status_of (Ok outcome) → RanImage image limits old new held failed status
  ended_ok outcome same e runs is = (
    Ok outcome,
    subst (λ x. RunsThrough x (budget_of limits) limits.steps old new held failed outcome) same
        (subst (λ b. RunsThrough bytes b limits.steps old new held failed outcome) e runs),
    is,
  )

  -- and one that was refused
  pub ended_err : (refusal : Refusal) → bytes ≡ image → budget ≡ budget_of limits → IsRunRefused bytes budget refusal
      → new ≡ old → status ≡ status_of (Err refusal) → RanImage image limits old new held failed status
  ended_err refusal same e refused stays is = (
    Err refusal,
    (
      subst (λ x. IsRunRefused x (budget_of limits) refusal) same
          (subst (λ b. IsRunRefused bytes b refusal) e refused),
      stays,
    ),
    is,
  )
