use Rattle.ps_check.proofs.Lists.{Reached}
use Rattle.ps_check.proofs.changes.add_outward.Given as goal

abbrev pub invariant-loop-change : goal.invariant-loop-change
invariant-loop-change l = Reached l.fn.outer.items l.changes l.change-index l.outer.items
