use Rattle.ps_tree.specs.Sizes.{cells}
use Rattle.ps_tree.proofs.SizeLemmas.{Counted}
use Rattle.ps_tree.proofs.types.sizes.cells_of_all.Given as goal

abbrev pub invariant-loop-ty : goal.invariant-loop-ty
invariant-loop-ty l = Counted cells 18446744073709551615 l.types l.ty-index l.total
