use Rattle.ps_meaning_runner.proofs.Worlds.{spots_next}
use Rattle.ps_meaning_runner.proofs.world.copy_spots.Goals as goal

pub loop-spot-preserved : goal.loop-spot-preserved
loop-spot-preserved c =
    rw c.in_ok-push.ensures.items (spots_next c.args.spots.now c.loop-spot.copies.items c.loop-spot.spot-index
    c.in_ok-copy.field-0 c.spot-item.result c.loop-spot.invariant c.in_ok-copy.ensures c.spot-item.is
    c.loop-spot-test.true)
