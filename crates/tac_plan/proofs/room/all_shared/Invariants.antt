use Rattle.std.proofs.Common.{◌≡◌, take}
use Rattle.tac_plan.proofs.room.all_shared.Given as goal

abbrev pub invariant-loop-routine : goal.invariant-loop-routine
invariant-loop-routine l = l.made.items ≡ take l.routine-index l.routines
