use Rattle.risc_emit.proofs.Rows.{get_of, trap_step, trap_all}
use Rattle.risc_emit.proofs.resolve.trap_rows.Goals as goal

pub loop-at-preserved : goal.loop-at-preserved
loop-at-preserved c =
    trap_step c.args.pieces.now c.loop-at.at c.index-pieces-at.result c.loop-at.rows.items _ _
    (get_of c.args.pieces.now c.loop-at.at _ _ c.loop-at-test.true c.index-pieces-at.is) c.in_ok-push_trap.ensures
    c.loop-at.invariant

pub returns : goal.returns
returns c =
    trap_all c.args.pieces.now c.loop-at.at c.loop-at.rows.items _ c.loop-at-test.false c.loop-at.invariant
