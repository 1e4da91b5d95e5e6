use Rattle.ps_syntax.specs.Height.{height_of_routine}
use Rattle.ps_syntax.proofs.Greatest.{Reached}
use Rattle.ps_syntax.proofs.heights.+block_height.Given as goal

abbrev pub invariant-routines_height-loop-routine : goal.invariant-routines_height-loop-routine
invariant-routines_height-loop-routine l = Reached 4294967295 height_of_routine l.routines l.routine-index l.most
