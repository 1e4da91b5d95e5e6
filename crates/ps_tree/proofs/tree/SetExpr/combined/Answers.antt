use Rattle.std.proofs.Common.{arith}
use Rattle.ps_tree.proofs.ChainLemmas.{combined_on, combined_begun}
use Rattle.ps_tree.proofs.tree.SetExpr.combined.Goals as goal

pub returns-in_ok-steps-in-Combine : goal.returns-in_ok-steps-in-Combine
returns-in_ok-steps-in-Combine c = grind (arith, combined_on)

pub returns-in_ok-first-in_default : goal.returns-in_ok-first-in_default
returns-in_ok-first-in_default c = grind (arith, combined_begun)
