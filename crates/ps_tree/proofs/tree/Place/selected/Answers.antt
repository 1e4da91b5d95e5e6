use Rattle.std.proofs.Common.{arith}
use Rattle.ps_tree.proofs.ChainLemmas.{selectors_pushed}
use Rattle.ps_tree.proofs.tree.Place.selected.Goals as goal

pub returns : goal.returns
returns c = grind (arith, selectors_pushed)
