use Rattle.std.proofs.Common.{◌<◌, length, refl, arith}
use Rattle.risc_alloc.proofs.Walking.{walked_none, walked_on}
use Rattle.risc_alloc.proofs.walk.walk.Goals as goal

pub loop-place-init : goal.loop-place-init
loop-place-init c = (
  omega arith,
  λ e. (
    refl,
    walked_none c.args.window.now c.args.claims.now c.args.body.now
        (length c.args.body.now) c.args.table.now.holders.items refl,
  ),
)

pub loop-place-preserved : goal.loop-place-preserved
loop-place-preserved c = (
  omega arith,
  λ e.
      let above : 0 < c.loop-place.place = omega arith in
      let before = c.loop-place.invariant.1 e in
      walked_on c.args.window.now c.args.claims.now c.loop-place.claims c.meet.new.claims c.args.body.now
      c.loop-place.place c.loop-place.table.holders.items c.step_back.new.table.holders.items above
      (c.in_ok-meet.ensures.same c.if-branch.false) before.0 before.1 (c.step_back.ensures c.if-not-step_back.false)
      (c.in_ok-meet.ensures.claimed c.if-branch.false),
)
