use Rattle.std.proofs.Common.{arith}
use Rattle.ps_tree.proofs.ChainLemmas.{connected_on, connected_other, connected_begun}
use Rattle.ps_tree.proofs.tree.Expr.connected.Goals as goal

pub returns-in_default : goal.returns-in_default
returns-in_default c = grind (arith, connected_begun)

pub returns-in_ok-rest-in-Logic : goal.returns-in_ok-rest-in-Logic
returns-in_ok-rest-in-Logic c = grind (arith, connected_on)

pub returns-else-eq : goal.returns-else-eq
returns-else-eq c = grind (arith, connected_other)
