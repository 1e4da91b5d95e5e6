use Rattle.std.proofs.Common.{◌<◌, length, subst}
use Rattle.risc_emit.specs.Layout.{laid_out}
use Rattle.risc_emit.proofs.Rows.{frame_step}
use Rattle.risc_emit.proofs.emit.frame_rows.Goals as goal

pub loop-number-preserved : goal.loop-number-preserved
loop-number-preserved c =
    frame_step (laid_out c.args.tac.now c.args.homes.now) c.args.tac.now.program c.loop-number.number c.frame_row.result
    c.loop-number.rows.items _ _ (subst (λ xs. c.loop-number.number < length xs) c.program-number-end.ensures
    c.loop-number-test.true) c.frame_row.ensures.entry c.frame_row.ensures.bytes c.in_ok-push.ensures.items
    c.loop-number.invariant
