use Rattle.ps_check_expressions.proofs.Firsts.{Filled}
use Rattle.ps_check_expressions.proofs.inner.firsts.Given as goal

abbrev pub invariant-loop-change : goal.invariant-loop-change
invariant-loop-change l = Filled l.changes l.change-index l.firsts.items
