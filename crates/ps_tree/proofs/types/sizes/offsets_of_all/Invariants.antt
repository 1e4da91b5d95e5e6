use Rattle.ps_tree.proofs.SizeLemmas.{Begun}
use Rattle.ps_tree.proofs.types.sizes.offsets_of_all.Given as goal

abbrev pub invariant-loop-ty : goal.invariant-loop-ty
invariant-loop-ty l = Begun 4294967295 l.types l.ty-index l.total l.offsets.items
