use Rattle.ps_tree.specs.Sizes.{bytes}
use Rattle.ps_tree.proofs.SizeLemmas.{Counted}
use Rattle.ps_tree.proofs.types.sizes.bytes_of_all.Given as goal

abbrev pub invariant-loop-ty : goal.invariant-loop-ty
invariant-loop-ty l = Counted bytes 4294967295 l.types l.ty-index l.total
