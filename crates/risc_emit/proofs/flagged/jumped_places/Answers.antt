use Rattle.std.proofs.Common.{refl}
use Rattle.std.proofs.lemmas.Option.{slice_get_read}
use Rattle.risc_emit.proofs.Jumps.{marked_more, marked_all}
use Rattle.risc_emit.proofs.flagged.jumped_places.Goals as goal

pub loop-place-preserved : goal.loop-place-preserved
loop-place-preserved c =
    marked_more c.args.body.now c.loop-place.place c.index-body-place.result c.loop-place.marks.items _ _
    (slice_get_read c.args.body.now _ c.loop-place.place c.index-body-place.result refl c.loop-place-test.true
    c.index-body-place.is) c.set_target.ensures c.loop-place.invariant

pub returns : goal.returns
returns c =
    marked_all c.args.body.now c.loop-place.place c.loop-place.marks.items _ c.loop-place-test.false
    c.loop-place.invariant
