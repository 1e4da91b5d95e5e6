use Rattle.std.proofs.Common.{◌<◌, length, arith}
use Rattle.ps_check_declarations.proofs.Walks.{at_own, walked_next}
use Rattle.ps_check_declarations.proofs.points.add_constants.Goals as goal

pub loop-definition-preserved : goal.loop-definition-preserved
loop-definition-preserved c =
    let below : c.loop-definition.definition-index < length c.args.definitions.now = omega
    (arith, c.loop-definition-test.true) in
    walked_next _ _ _ _ _ _ _ _ below (at_own _ _ _ below) c.loop-definition.invariant c.in_ok-add_constant.ensures
