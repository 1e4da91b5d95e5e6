-- What was made where memory was not refused, and what advice tells of a text.
use Rattle.std.proofs.Common.{◌≡◌, sym, subst, ℕ, Bool, true, false, List, Option, Some, inr}
use Rattle.std.specs.Prelude.{IfOk, IfSome, Result, Ok, Err}
use Rattle.ps_advise.specs.Trials.{IsTold}
use Rattle.pascal_cli.specs.Failures.{HasRefusal, Tells, made}
use Rattle.pascal_cli.specs.Jobs.{IsAccepted}

pub made_is : {T E : Type 0} (r : Result T E) (P : T → Type 0) (o : Option T) → IfOk r P → o ≡ made r → IfSome o P
made_is (Ok value) P o is e = subst (λ x. IfSome x P) (sym e) is
made_is (Err error) P o is e = subst (λ x. IfSome x P) (sym e) tt

pub inner_is : {T : Type 0} (o : Option T) (P : T → Type 0) (value : T) → o ≡ Some value → IfSome o P → P value
inner_is o P value e is = subst (λ x. IfSome x P) e is

pub of_advice : (text : List ℕ) (is_accepted failed : Bool) → IsTold text is_accepted
    → Tells is_accepted failed (IsAccepted text) (HasRefusal text)
of_advice text true failed told = inr told
of_advice text false failed told = inr (told.0, told.1.0, told.1.1)
