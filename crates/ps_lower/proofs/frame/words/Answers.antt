use Rattle.ps_tree.specs.View.{type_of}
use Rattle.ps_lower.proofs.Sizes.{words_of_bytes}
use Rattle.ps_lower.proofs.frame.words.Goals as goal

pub returns : goal.returns
returns c = words_of_bytes (type_of c.args.ty.now) c.bytes.result c.bytes.ensures c.requires
