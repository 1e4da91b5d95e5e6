-- The words that are left are what is missing.
use Rattle.std.proofs.Common.{◌≡◌, ◌*◌, ◌++◌, drop}
use Rattle.risc_emit_laws.specs.Drawn.{text_words}
use Rattle.risc_emit.proofs.draft.put_words.Given as goal

abbrev pub invariant-loop-k : goal.invariant-loop-k
invariant-loop-k l =
    l.texts.items ++ text_words (drop (4 * l.k) l.bytes) ≡ l.initial.texts.items ++ text_words l.bytes
