use Rattle.ps_tree.specs.View.{type_of}
use Rattle.ps_lower.proofs.Shaped.{bytes_told}
use Rattle.ps_lower.proofs.shapes.byte_count.Goals as goal

pub returns : goal.returns
returns c = bytes_told (type_of c.args.ty.now) c.bytes.result c.bytes.ensures c.requires
