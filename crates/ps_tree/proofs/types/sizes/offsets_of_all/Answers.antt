use Rattle.std.proofs.Common.{arith}
use Rattle.ps_tree.proofs.SizeLemmas.{begun_next, begun_end}
use Rattle.ps_tree.proofs.types.sizes.offsets_of_all.Goals as goal

pub loop-ty-preserved : goal.loop-ty-preserved
loop-ty-preserved c = grind (arith, begun_next)

pub returns : goal.returns
returns c = grind (arith, begun_end)
