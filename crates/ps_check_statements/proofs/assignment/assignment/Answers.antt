use Rattle.ps_check_judgement.proofs.Lists.{told_bind, handed_on}
use Rattle.ps_check_expressions.proofs.Judgement.{variable_first}
use Rattle.ps_check_expressions.proofs.RoutineLemmas.{still_answers}
use Rattle.ps_check_statements.proofs.assignment.assignment.Goals as goal

pub returns-in_err-changed : goal.returns-in_err-changed
returns-in_err-changed c = handed_on _ _ _ _ c.from_residual-in_err-changed.ensures.1
    (rw (c.in_ok-place.ensures, variable_first) (told_bind _ _ _ c.in_err-changed.ensures))

pub returns-in_err-value : goal.returns-in_err-value
returns-in_err-value c = handed_on _ _ _ _ c.from_residual-in_err-value.ensures.1
    (rw (c.in_ok-place.ensures, variable_first, c.in_ok-changed.ensures) (told_bind _ _ _ c.in_err-value.ensures))

pub returns : goal.returns
returns c = rw (
  c.in_ok-place.ensures,
  variable_first,
  c.in_ok-changed.ensures,
  c.in_ok-value.ensures,
  ←
      c.line.ensures,
) (still_answers _ _ _ _ c.assigned.ensures)
