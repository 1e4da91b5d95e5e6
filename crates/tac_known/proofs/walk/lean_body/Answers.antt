use Rattle.std.proofs.Common.{◌≡◌, ◌<◌, length, get_or, Some, refl, ap, ◌∙◌, subst, arith}
use Rattle.std.proofs.lemmas.Option.{slice_get_read}
use Rattle.tac_known.proofs.Walked.{WalkedTo, walks_on, walked_whole}
use Rattle.tac_known.proofs.walk.lean_body.Goals as goal

pub loop-place-preserved : goal.loop-place-preserved
loop-place-preserved c =
    let size = c.loop-place.invariant.as_many in
    let test = c.loop-place-test.true in
    let below : c.loop-place.place < length c.loop-place.body = omega (arith, size, test) in
    walks_on c.args.temporaries c.args.claims.now c.args.order_claims.now c.args.body.now c.loop-place.place
    c.loop-place.body c.loop-place.kinds c.whole_place.new.kinds c.loop-place.orders c.whole_place.new.orders
    (get_or c.loop-place.body c.loop-place.place c.index-body-place.result) c.whole_place.new.instruction
    c.loop-place.invariant
    (slice_get_read c.loop-place.body (length c.loop-place.body) c.loop-place.place c.index-body-place.result refl below
    c.index-body-place.is ∙ ap Some c.index-body-place.is) (c.whole_place.ensures.well c.if-not-whole_place.false)
    (c.whole_place.ensures.ordered c.if-not-whole_place.false) (c.whole_place.ensures.made c.if-not-whole_place.false)
    (c.whole_place.ensures.taken c.if-not-whole_place.false) (c.whole_place.ensures.next c.if-not-whole_place.false)
    below

pub returns : goal.returns
returns c =
    let over = c.loop-place-test.false in
    let within = c.loop-place.auto.place-end in
    let end : c.loop-place.place ≡ length c.args.body.now = omega (arith, over, within) in
    λ _. walked_whole c.args.temporaries c.args.claims.now c.args.order_claims.now c.args.body.now c.loop-place.body
    c.loop-place.kinds c.loop-place.orders
    (subst (λ n. WalkedTo c.args.temporaries c.args.claims.now c.args.order_claims.now c.args.body.now n
    c.loop-place.body
    c.loop-place.kinds c.loop-place.orders) end c.loop-place.invariant)
