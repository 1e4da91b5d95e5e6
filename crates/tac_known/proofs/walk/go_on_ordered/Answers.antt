use Rattle.std.proofs.Common.{◌≡◌, suc, refl, sym, ap, ◌∙◌, arith}
use Rattle.tac_known.specs.Walk.{order_claim_at, orders_fall, allowed_if_falls}
use Rattle.tac_known.proofs.walk.go_on_ordered.Goals as goal

pub returns-clause-well : goal.returns-clause-well
returns-clause-well c =
    let h = c.in-Some.ensures in
    let n : c.in-Some.next ≡ suc c.args.place = omega (arith, h) in
    λ e. ap (λ o. allowed_if_falls c.args.instruction.now o
    (orders_fall c.args.kinds.now c.args.orders.now c.args.instruction.now))
    (sym (c.order_claim-claimed.ensures ∙ ap (order_claim_at c.args.claims.now) n))
    ∙ ap (allowed_if_falls c.args.instruction.now c.order_claim-claimed.result) (sym c.orders_fall-behind.ensures)
    ∙ c.fall_to.ensures e
