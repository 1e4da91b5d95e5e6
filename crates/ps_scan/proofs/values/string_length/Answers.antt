use Rattle.std.proofs.Common.{arith}
use Rattle.ps_scan.proofs.Twins.{twin_passes}
use Rattle.ps_scan.proofs.values.string_length.Goals as goal

pub loop-byte-preserved-then-is_twin : goal.loop-byte-preserved-then-is_twin
loop-byte-preserved-then-is_twin c =
    let passes = twin_passes _ _ c.loop-byte-test.true in
    let before = rw c.if-is_twin.true at c.loop-byte.invariant.0 in
    (rw (← passes) before, omega arith)
