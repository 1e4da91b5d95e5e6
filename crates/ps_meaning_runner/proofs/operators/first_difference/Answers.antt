use Rattle.std.proofs.Common.{arith}
use Rattle.ps_meaning_runner.proofs.SetsAndStrings.{difference_other, difference_past, difference_same}
use Rattle.ps_meaning_runner.proofs.operators.first_difference.Goals as goal

pub loop-place-preserved : goal.loop-place-preserved
loop-place-preserved c = grind (arith, difference_same)

pub returns-then-not-is_equal : goal.returns-then-not-is_equal
returns-then-not-is_equal c = grind (arith, difference_other)

pub returns-else-place-b : goal.returns-else-place-b
returns-else-place-b c = grind (arith, difference_past)

pub returns-after-loop-place : goal.returns-after-loop-place
returns-after-loop-place c = grind (arith, difference_past)
