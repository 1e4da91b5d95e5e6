use Rattle.std.proofs.Common.{arith}
use Rattle.std.proofs.lemmas.List.Elements.{All-more}
use Rattle.risc_image.specs.Format.{word_bytes, trap_words, AreWords}
use Rattle.risc_image.proofs.Written.{written_more}
use Rattle.risc_image.proofs.writing.put_traps.Goals as goal

pub loop-row-preserved : goal.loop-row-preserved
loop-row-preserved c = record {
  bytes = written_more (λ row. word_bytes (trap_words row)) c.args.rows.now c.loop-row.row-index _ _ _ _
      (omega arith) c.loop-row.invariant.bytes c.in_ok-put_words.ensures.bytes;
  numbers = All-more (λ row. AreWords (trap_words row)) c.args.rows.now c.loop-row.row-index _
      (omega arith) c.loop-row.invariant.numbers c.in_ok-put_words.ensures.numbers;
}
