use Rattle.std.proofs.Common.{arith}
use Rattle.ps_lower.proofs.Spreading.{one_byte, two_bytes, three_bytes, four_bytes}
use Rattle.ps_lower.proofs.first_stores.bytes_below.Goals as goal

pub returns-then-n-eq1 : goal.returns-then-n-eq1
returns-then-n-eq1 c = one_byte _ _ c.if-n-eq1.true

pub returns-then-n-eq2 : goal.returns-then-n-eq2
returns-then-n-eq2 c = two_bytes _ _ c.if-n-eq2.true

pub returns-then-n-eq3 : goal.returns-then-n-eq3
returns-then-n-eq3 c = three_bytes _ _ c.if-n-eq3.true

pub returns : goal.returns
returns c = four_bytes _ _ (omega (
  arith,
  c.if-n-eq1.false,
  c.if-n-eq2.false,
  c.if-n-eq3.false,
  c.requires.some,
  c.requires.few,
))
