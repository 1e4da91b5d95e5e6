use Rattle.std.proofs.Common.{arith}
use Rattle.ps_tree.specs.TypeView.{type_of}
use Rattle.ps_tree.specs.Sizes.{cells}
use Rattle.ps_tree.proofs.SizeLemmas.{times_capped}
use Rattle.ps_tree.proofs.types.Ty.cells.Goals as goal

pub returns-in-Array : goal.returns-in-Array
unfolding type_of cells
returns-in-Array c = grind (arith, times_capped)
