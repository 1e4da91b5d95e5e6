use Rattle.std.proofs.Common.{◌-◌}
use Rattle.risc_alloc.specs.Fits.{SeatsFit}
use Rattle.risc_alloc.proofs.routine.are_apart.Given as goal

abbrev pub invariant-loop-from : goal.invariant-loop-from
invariant-loop-from l = SeatsFit l.routine l.seats l.count 0 l.from

abbrev pub decreases-loop-from : goal.decreases-loop-from
decreases-loop-from l = l.count - l.from
