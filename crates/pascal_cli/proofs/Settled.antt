-- How a run is told, once all that was held is handed on.
use Rattle.std.proofs.Common.{◌≡◌, ℕ, Bool, true, false, List, [], Option, Some, None, inl, inr, refl, sym, subst}
use Rattle.std.specs.Prelude.{IfSome, IfNone, unwrap_or}
use Rattle.std.specs.Io.KnownBytes.{Keeps}
use Rattle.risc_machine.specs.Console.{World}
use Rattle.risc_load.specs.declared.budget.Budget.{Budget}
use Rattle.ps_build.specs.declared.outcome.Outcome.{Outcome}
use Rattle.ps_build.specs.declared.outcome.Outcome.TheVariants.{OutputFault}
use Rattle.ps_build.specs.Runs.{RunsImage}
use Rattle.ps_build.specs.Goes.{Goes}
use Rattle.ps_build.specs.Slices.{IsImageLeft, IsGoLeft}
use Rattle.ps_build.proofs.Kept.{Same, go_kept, go_left_kept, image_kept, image_left_kept}
use Rattle.pascal_cli.specs.Runs.{IsSettled, GoesThrough, RunsThrough}

pub lost : (end : Option Outcome) (held : List ℕ) (failed : Bool) → failed ≡ true
    → IsSettled end OutputFault held failed
lost end held true e = refl
lost end held false e = absurd (cc)

pub whole : (end : Option Outcome) (held : List ℕ) (before failed : Bool) → IfNone end (before ≡ true)
    → (before ≡ true → failed ≡ true) → failed ≡ false → held ≡ [] → IsSettled end
    (unwrap_or end OutputFault) held failed
whole (Some outcome) held before false failed_before stays e h = (refl, h)
whole (Some outcome) held before true failed_before stays e h = absurd (cc)
whole None held before failed failed_before stays e h = absurd (let f = stays failed_before in cc)

same_known : (known : Option (List ℕ)) → Keeps known known
same_known None = tt
same_known (Some bytes) = refl

-- the reader is as it was
pub kept_input : (old new : Option (List ℕ)) → new ≡ old → Keeps old new
kept_input old new e = subst (λ known. Keeps old known) (sym e) (same_known old)

pub goes_through : (text : List ℕ) (budget : Budget) (n : ℕ) (first old new : World) (end : Option Outcome)
    (told : Outcome) (held : List ℕ) (failed : Bool) → Same old new → IfSome end (Goes text budget n first old)
    → IfNone end (IsGoLeft text budget n first old) → IsSettled end told held failed
    → GoesThrough text budget n first new held failed told
goes_through text budget n first old new (Some end) told held false same runs left settled = (
  subst (Goes text budget n first new) (some_is settled.0)
      (go_kept text budget n first old new end same runs),
  settled.1,
)
  where
    some_is : Some end ≡ Some told → end ≡ told
    some_is e = cc
goes_through text budget n first old new (Some end) told held true same runs left settled =
    (settled, inr (end, go_kept text budget n first old new end same runs))
goes_through text budget n first old new None told held false same runs left settled = absurd (let e = settled.0 in cc)
goes_through text budget n first old new None told held true same runs left settled =
    (settled, inl (go_left_kept text budget n first old new same left))

pub runs_through : (image : List ℕ) (budget : Budget) (n : ℕ) (first old new : World) (end : Option Outcome)
    (told : Outcome) (held : List ℕ) (failed : Bool) → Same old new → IfSome end (RunsImage image budget n first old)
    → IfNone end (IsImageLeft image budget n first old) → IsSettled end told held failed
    → RunsThrough image budget n first new held failed told
runs_through image budget n first old new (Some end) told held false same runs left settled = (
  subst (RunsImage image budget n first new) (some_is settled.0)
      (image_kept image budget n first old new end same runs),
  settled.1,
)
  where
    some_is : Some end ≡ Some told → end ≡ told
    some_is e = cc
runs_through image budget n first old new (Some end) told held true same runs left settled =
    (settled, inr (end, image_kept image budget n first old new end same runs))
runs_through image budget n first old new None told held false same runs left settled = absurd (let e = settled.0 in cc)
runs_through image budget n first old new None told held true same runs left settled =
    (settled, inl (image_left_kept image budget n first old new same left))
