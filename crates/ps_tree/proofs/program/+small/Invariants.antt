use Rattle.ps_tree.proofs.FormalLemmas.{Passed, small_formals}
use Rattle.ps_tree.proofs.program.+small.Given as goal

abbrev pub invariant-are_small_formals-loop-formal : goal.invariant-are_small_formals-loop-formal
invariant-are_small_formals-loop-formal l = Passed small_formals l.formals l.formal-index
