use Rattle.ps_meaning_runner.proofs.SetsAndStrings.{Spanned}
use Rattle.ps_meaning_runner.proofs.operators.interval.Given as goal

abbrev pub invariant-loop-number : goal.invariant-loop-number
invariant-loop-number l = Spanned l.low l.number l.tests.items
