use Rattle.std.proofs.Common.{◌<◌, length, arith}
use Rattle.ps_check_declarations.proofs.Walks.{at_own, added_next}
use Rattle.ps_check_declarations.proofs.points.add_points.Goals as goal

pub loop-point-preserved : goal.loop-point-preserved
loop-point-preserved c =
    let below : c.loop-point.point-index < length c.args.points.now = omega (arith, c.loop-point-test.true) in
    added_next _ _ _ _ _ _ _ below (at_own _ _ _ below) c.loop-point.invariant c.in_ok-add_point.ensures
