use Rattle.std.proofs.Common.{length, subst}
use Rattle.risc_word.specs.Words.{Denotes}
use Rattle.risc_emit.specs.Placed.{placed}
use Rattle.risc_emit.proofs.Rows.{get_of, word_step}
use Rattle.risc_emit.proofs.resolve.words_of.Goals as goal

pub loop-at-preserved : goal.loop-at-preserved
loop-at-preserved c =
    word_step (placed c.args.marks.now (length c.args.pieces.now)) c.args.pieces.now c.loop-at.at _ _
    c.loop-at.code.items _ (get_of c.args.pieces.now c.loop-at.at _ _ c.loop-at-test.true c.index-pieces-at.is)
    (subst (Denotes c.encode.result) c.instr_at.ensures c.encode.ensures.denotes) c.in_ok-push.ensures.items
    c.loop-at.invariant
