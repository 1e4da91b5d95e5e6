use Rattle.std.proofs.Common.{◌≡◌, map, take}
use Rattle.tac_plan.specs.Roomy.{with_room}
use Rattle.tac_plan.proofs.room.all_with_room.Given as goal

abbrev pub invariant-loop-routine : goal.invariant-loop-routine
invariant-loop-routine l = l.made.items ≡ map with_room (take l.routine-index l.routines)
