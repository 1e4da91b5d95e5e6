use Rattle.ps_check_judgement.proofs.Lists.{handed_on}
use Rattle.ps_check_judgement.proofs.Pairs.{pair_told}
use Rattle.ps_check_expressions.specs.Operators.{arithmetic}
use Rattle.ps_check_expressions.proofs.operators.arithmetic.Goals as goal

pub returns-in_err-left : goal.returns-in_err-left
unfolding arithmetic
returns-in_err-left c = handed_on _ _ _ _ c.from_residual.ensures.1
    (pair_told _ _ _ _ _ _ _ _ c.operand_of-left.ensures c.operand_of-right.ensures c.in_err-left.ensures)
