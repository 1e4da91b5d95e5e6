use Rattle.ps_scan.proofs.Twins.{twin_passes}
use Rattle.ps_scan.proofs.values.string_value.Goals as goal

pub loop-byte-preserved-then-is_twin : goal.loop-byte-preserved-then-is_twin
loop-byte-preserved-then-is_twin c =
    let passes = twin_passes _ _ c.loop-byte-test.true in
    let before = rw c.if-is_twin.true at c.loop-byte.invariant in
    rw (← passes) before
