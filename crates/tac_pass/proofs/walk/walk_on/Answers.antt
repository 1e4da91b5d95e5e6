use Rattle.std.proofs.Common.{length, refl}
use Rattle.std.proofs.lemmas.Option.{slice_get_read}
use Rattle.tac_pass.specs.Walk.{spot}
use Rattle.tac_pass.proofs.Walks.{walks_on}
use Rattle.tac_pass.proofs.walk.walk_on.Goals as goal

pub loop-place-preserved : goal.loop-place-preserved
loop-place-preserved c =
    walks_on c.args.way.now.routine c.args.way.now.minded.now c.args.way.now.steps.now c.args.way.now.starts.now
    c.args.body.now c.loop-place.place (spot c.loop-place.rows c.loop-place.out.items)
    (spot c.pass_place.new.rows c.pass_place.new.out.items) c.index-body-place.result c.loop-place.invariant
    (slice_get_read c.args.body.now (length c.args.body.now) c.loop-place.place c.index-body-place.result refl
    c.loop-place-test.true c.index-body-place.is) (c.in_ok-pass_place.ensures c.if-not-branch.false)
