use Rattle.std.proofs.Common.{w32, arith}
use Rattle.std.specs.Int.{to_le_bytes}
use Rattle.risc_image.proofs.Written.{written_more}
use Rattle.risc_image.proofs.writing.put_words.Goals as goal

pub loop-word-preserved : goal.loop-word-preserved
loop-word-preserved c =
    written_more (to_le_bytes w32) c.args.words.now c.loop-word.word-index _ _ _ _
    (omega arith) c.loop-word.invariant c.in_ok-put_word.ensures
