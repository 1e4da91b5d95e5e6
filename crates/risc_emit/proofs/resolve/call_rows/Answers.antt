use Rattle.risc_emit.proofs.Rows.{get_of, call_step, call_all}
use Rattle.risc_emit.proofs.resolve.call_rows.Goals as goal

pub loop-at-preserved : goal.loop-at-preserved
loop-at-preserved c =
    call_step c.args.pieces.now c.loop-at.at c.index-pieces-at.result c.loop-at.rows.items _ _
    (get_of c.args.pieces.now c.loop-at.at _ _ c.loop-at-test.true c.index-pieces-at.is) c.in_ok-push_call.ensures
    c.loop-at.invariant

pub returns : goal.returns
returns c =
    call_all c.args.pieces.now c.loop-at.at c.loop-at.rows.items _ c.loop-at-test.false c.loop-at.invariant
