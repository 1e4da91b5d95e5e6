use Rattle.std.proofs.Common.{◌<◌, length, arith}
use Rattle.ps_check_judgement.proofs.Lists.{handed_on, stepped_start, stepped_next, stepped_fault}
use Rattle.ps_check_judgement.proofs.Lists.{stepped_end}
use Rattle.ps_check_declarations.specs.Points.{new_points}
use Rattle.ps_check_declarations.proofs.Walks.{at_own}
use Rattle.ps_check_declarations.proofs.points.new_points.Goals as goal

pub loop-point-init : goal.loop-point-init
loop-point-init c = stepped_start _ _ _

pub loop-point-preserved : goal.loop-point-preserved
loop-point-preserved c =
    let below : c.loop-point.point-index < length c.args.points.now = omega (arith, c.loop-point-test.true) in
    stepped_next _ _ _ _ _ _ _ below (at_own _ _ _ below) c.loop-point.invariant c.in_ok-defined.ensures

pub returns-in_err-defined : goal.returns-in_err-defined
unfolding new_points
returns-in_err-defined c =
    let below : c.loop-point.point-index < length c.args.points.now = omega (arith, c.loop-point-test.true) in
    handed_on _ _ _ _ c.from_residual.ensures.1
    (stepped_fault _ _ _ _ _ _ _ below (at_own _ _ _ below) c.loop-point.invariant c.in_err-defined.ensures)

pub returns : goal.returns
unfolding new_points
returns c = stepped_end _ _ _ _ _ c.loop-point-test.false c.loop-point.invariant
