use Rattle.std.proofs.Common.{arith}
use Rattle.ps_tree.proofs.ChainLemmas.{begun_is}
use Rattle.ps_tree.proofs.tree.chains.begun.Goals as goal

pub returns : goal.returns
returns c = grind (arith, begun_is)
