use Rattle.std.proofs.Common.{arith}
use Rattle.ps_tree.specs.TypeView.{type_of}
use Rattle.ps_tree.specs.Sizes.{bytes}
use Rattle.ps_tree.proofs.SizeLemmas.{times_capped}
use Rattle.ps_tree.proofs.types.Ty.bytes.Goals as goal

pub returns-else-packed : goal.returns-else-packed
unfolding type_of bytes
returns-else-packed c = grind (arith, times_capped)
