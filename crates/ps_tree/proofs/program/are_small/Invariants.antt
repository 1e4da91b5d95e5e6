use Rattle.ps_tree.proofs.FormalLemmas.{Passed, small_types}
use Rattle.ps_tree.proofs.program.are_small.Given as goal

abbrev pub invariant-loop-ty : goal.invariant-loop-ty
invariant-loop-ty l = Passed small_types l.types l.ty-index
