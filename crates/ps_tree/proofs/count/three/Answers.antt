use Rattle.ps_tree.specs.Counts.{◌⊕◌, node}
use Rattle.ps_tree.proofs.count.three.Goals as goal

pub returns : goal.returns
returns c x y z e f g = c.both.ensures (node ⊕ x ⊕ y) z (c.two.ensures x y e f) g
