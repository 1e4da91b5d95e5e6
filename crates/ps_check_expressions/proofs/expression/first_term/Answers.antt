use Rattle.std.proofs.Common.{Ok, refl}
use Rattle.ps_check_expressions.specs.Expressions.{first_term}
use Rattle.ps_check_expressions.specs.View.{value_of}
use Rattle.ps_check_expressions.proofs.Carrying.{carried_err, carried_ok}
use Rattle.ps_check_expressions.proofs.expression.first_term.Goals as goal

pub returns-in-Err : goal.returns-in-Err
returns-in-Err c = carried_err _ _ (λ v. value_of v) _ _ c.in-Err.is

pub returns-in-None : goal.returns-in-None
unfolding first_term
returns-in-None c = carried_ok _ _ (λ v. value_of v) _ c.in-Ok.term (Ok c.in-Ok.term) c.in-Ok.is
    (rw (c.in-None.is) refl)

pub returns-in-Some : goal.returns-in-Some
unfolding first_term
returns-in-Some c = carried_ok _ _ _ _ _ _ c.in-Ok.is (rw (c.in-Some.is, ← c.line-line.ensures) c.with_sign.ensures)
