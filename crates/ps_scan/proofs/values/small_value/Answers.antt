use Rattle.std.proofs.Common.{arith}
use Rattle.ps_scan.proofs.Numbers.{value_front}
use Rattle.ps_scan.proofs.values.small_value.Goals as goal

pub returns-then-more-from : goal.returns-then-more-from
returns-then-more-from c small = absurd (omega
    (arith, value_front _ _ _ c.loop-digit-test.true c.loop-digit.invariant.0))
