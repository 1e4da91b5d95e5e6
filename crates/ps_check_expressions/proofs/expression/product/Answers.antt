use Rattle.ps_check_expressions.specs.View.{value_of}
use Rattle.ps_check_expressions.proofs.Carrying.{carried_err, carried_ok}
use Rattle.ps_check_expressions.proofs.expression.product.Goals as goal

pub returns-in-Err : goal.returns-in-Err
returns-in-Err c = carried_err _ _ (λ v. value_of v) _ _ c.in-Err.is

pub returns-in-Ok : goal.returns-in-Ok
returns-in-Ok c = carried_ok _ _ _ _ _ _ c.in-Ok.is
    (rw (← c.first_token.ensures, ← c.line-line.ensures) c.multiplied.ensures)
