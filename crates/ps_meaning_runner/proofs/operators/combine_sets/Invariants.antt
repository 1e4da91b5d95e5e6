use Rattle.ps_meaning_runner.proofs.SetsAndStrings.{Combined}
use Rattle.ps_meaning_runner.proofs.operators.combine_sets.Given as goal

abbrev pub invariant-loop-number : goal.invariant-loop-number
invariant-loop-number l = Combined l.operator l.a l.b l.number l.tests.items
