use Rattle.std.proofs.Common.{◌≡◌, ◌++◌, take}
use Rattle.risc_image.specs.Format.{word_bytes}
use Rattle.risc_image.proofs.writing.put_words.Given as goal

abbrev pub invariant-loop-word : goal.invariant-loop-word
invariant-loop-word l = l.out.items ≡ l.fn.out.items ++ word_bytes (take l.word-index l.words)
