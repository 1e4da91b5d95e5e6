-- The words so far are those of the first pieces.
use Rattle.std.proofs.Common.{length}
use Rattle.risc_emit.specs.Placed.{placed, AreWordsTo}
use Rattle.risc_emit.proofs.resolve.words_of.Given as goal

abbrev pub invariant-loop-at : goal.invariant-loop-at
invariant-loop-at l = AreWordsTo (placed l.marks (length l.pieces)) l.pieces l.at l.code.items
