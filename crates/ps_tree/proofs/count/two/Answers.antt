use Rattle.ps_tree.specs.Counts.{◌⊕◌, node}
use Rattle.ps_tree.proofs.count.two.Goals as goal

pub returns : goal.returns
returns c x y e f = c.both.ensures (node ⊕ x) y (c.with_node.ensures x e) f
