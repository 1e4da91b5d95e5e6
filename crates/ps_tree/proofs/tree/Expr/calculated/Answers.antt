use Rattle.std.proofs.Common.{arith}
use Rattle.ps_tree.proofs.ChainLemmas.{calculated_on, calculated_begun}
use Rattle.ps_tree.proofs.tree.Expr.calculated.Goals as goal

pub returns-in_ok-steps-in-Arithmetic : goal.returns-in_ok-steps-in-Arithmetic
returns-in_ok-steps-in-Arithmetic c = grind (arith, calculated_on)

pub returns-in_ok-first-in_default : goal.returns-in_ok-first-in_default
returns-in_ok-first-in_default c = grind (arith, calculated_begun)
