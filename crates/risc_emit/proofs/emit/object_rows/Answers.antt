use Rattle.std.proofs.Common.{◌<◌, length, refl, subst}
use Rattle.risc_emit.specs.Layout.{laid_out}
use Rattle.risc_emit.proofs.Rows.{object_step}
use Rattle.risc_emit.proofs.emit.object_rows.Goals as goal

pub loop-number-preserved : goal.loop-number-preserved
loop-number-preserved c =
    object_step (laid_out c.args.tac.now c.args.homes.now) c.args.tac.now.objects c.loop-number.number _
    c.loop-number.rows.items _ _ (subst (λ xs. c.loop-number.number < length xs) c.objects-number-end.ensures
    c.loop-number-test.true) refl c.object_bytes.ensures c.in_ok-push.ensures.items c.loop-number.invariant
