use Rattle.ps_lower.proofs.Laying.{Tabled}
use Rattle.ps_lower.proofs.frames.tables.Given as goal

abbrev pub invariant-loop-routine : goal.invariant-loop-routine
invariant-loop-routine l = Tabled l.routines l.routine-index l.list.items
