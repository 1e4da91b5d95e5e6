use Rattle.ps_check_judgement.proofs.Lists.{handed_on}
use Rattle.ps_check_judgement.proofs.Pairs.{next_told}
use Rattle.ps_check_expressions.specs.View.{value_of}
use Rattle.ps_check_expressions.proofs.RoutineLemmas.{still_answers, next_answers}
use Rattle.ps_check_expressions.proofs.expression.comparison.Goals as goal

pub returns-in_err-left : goal.returns-in_err-left
returns-in_err-left c = λ m n before between after hl hr. handed_on _ _ _ _ c.from_residual.ensures.1
    (next_told _ _ (λ v. value_of v) (λ v. (value_of v, after)) between (m before) n _ _ hl hr c.in_err-left.ensures)

pub returns : goal.returns
returns c = λ m n before between after hl hr. next_answers _ _ _ _ (λ v. value_of v)
    (λ v. (value_of v, after)) between (m before) n _ _ _ hl hr c.in_ok-left.ensures
    (still_answers _ _ _ _ c.compared.ensures)
