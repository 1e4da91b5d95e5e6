use Rattle.std.proofs.Common.{◌≡◌, ◌+◌, ◌<◌, length, get_or, slice_set, Some, refl, sym, ap, ◌∙◌, subst, arith}
use Rattle.std.proofs.lemmas.Option.{slice_get_read}
use Rattle.tac_known.proofs.AgainWalked.{WalkedTo, walks_on, walked_whole}
use Rattle.tac_known.proofs.again.again_body.Goals as goal

pub loop-place-preserved : goal.loop-place-preserved
loop-place-preserved c =
    let size = c.loop-place.invariant.as_many in
    let test = c.loop-place-test.true in
    let below : c.loop-place.place < length c.loop-place.body = omega (arith, size, test) in
    subst (λ m. WalkedTo m c.args.body.now (c.loop-place.place + 1)
    (slice_set c.loop-place.body c.loop-place.place c.again_place.new.instruction) c.again_place.new.standing)
    c.as_slice.ensures.value
    (walks_on c.as_slice.result.now c.args.body.now c.loop-place.place c.loop-place.body c.loop-place.standing
    c.again_place.new.standing
    (get_or c.loop-place.body c.loop-place.place c.index-body-place.result) c.again_place.new.instruction
    (subst (λ m. WalkedTo m c.args.body.now c.loop-place.place c.loop-place.body c.loop-place.standing)
    (sym c.as_slice.ensures.value) c.loop-place.invariant)
    (slice_get_read c.loop-place.body (length c.loop-place.body) c.loop-place.place c.index-body-place.result refl below
    c.index-body-place.is ∙ ap Some c.index-body-place.is) (c.again_place.ensures.well c.if-not-again_place.false)
    (c.again_place.ensures.made c.if-not-again_place.false) (c.again_place.ensures.taken c.if-not-again_place.false)
    below)

pub returns : goal.returns
returns c =
    let over = c.loop-place-test.false in
    let within = c.loop-place.auto.place-end in
    let end : c.loop-place.place ≡ length c.args.body.now = omega (arith, over, within) in
    λ _. walked_whole c.in_ok-marks.marks.items c.args.body.now c.loop-place.body c.loop-place.standing
    (subst (λ n. WalkedTo c.in_ok-marks.marks.items c.args.body.now n c.loop-place.body c.loop-place.standing) end
    c.loop-place.invariant)
