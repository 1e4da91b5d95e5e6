use Rattle.std.proofs.Common.{refl}
use Rattle.ps_tree.specs.Counts.{◌⊕◌, node}
use Rattle.ps_tree.proofs.count.binary.Goals as goal

pub returns : goal.returns
returns c x y e f = c.both-2.ensures (x ⊕ node) y (c.both.ensures x node e refl) f
