use Rattle.ps_tree.proofs.FormalLemmas.{Passed, routines_within}
use Rattle.ps_tree.proofs.program.are_routines_within_limits.Given as goal

abbrev pub invariant-loop-routine : goal.invariant-loop-routine
invariant-loop-routine l = Passed routines_within l.routines l.routine-index
