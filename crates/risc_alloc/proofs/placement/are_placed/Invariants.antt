use Rattle.risc_alloc.proofs.Whole.{Placed}
use Rattle.risc_alloc.proofs.placement.are_placed.Given as goal

abbrev pub invariant-loop-number : goal.invariant-loop-number
invariant-loop-number l = Placed l.tac l.homes l.number l.from
