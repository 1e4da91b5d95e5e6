use Rattle.std.proofs.Common.{◌<◌, length, arith}
use Rattle.ps_check_declarations.proofs.Walks.{at_own}
use Rattle.ps_check.proofs.Lists.{reached_next}
use Rattle.ps_check.proofs.changes.add_outward.Goals as goal

pub loop-change-preserved : goal.loop-change-preserved
loop-change-preserved c =
    let below : c.loop-change.change-index < length c.args.changes.now = omega (arith, c.loop-change-test.true) in
    reached_next _ _ _ _ _ _ below (at_own _ _ _ below) c.loop-change.invariant c.in_ok-add_one_outward.ensures
