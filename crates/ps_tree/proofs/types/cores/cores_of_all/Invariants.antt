use Rattle.ps_tree.proofs.CoreLemmas.{Kept}
use Rattle.ps_tree.proofs.types.cores.cores_of_all.Given as goal

abbrev pub invariant-loop-ty : goal.invariant-loop-ty
invariant-loop-ty l = Kept l.types l.ty-index l.solid.items
