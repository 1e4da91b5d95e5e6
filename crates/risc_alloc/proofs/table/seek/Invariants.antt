use Rattle.std.proofs.Common.{length, ◌-◌, ◌≤◌}
use Rattle.risc_alloc.proofs.table.seek.Given as goal

abbrev pub invariant-loop-at : goal.invariant-loop-at
invariant-loop-at l = l.from ≤ length l.list → l.at ≤ length l.list

abbrev pub decreases-loop-at : goal.decreases-loop-at
decreases-loop-at l = length l.list - l.at
