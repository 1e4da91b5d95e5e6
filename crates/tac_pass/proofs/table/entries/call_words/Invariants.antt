use Rattle.std.proofs.Common.{◌≡◌, ◌++◌, length, map, take, drop}
use Rattle.tac_pass.specs.Tables.{called_word}
use Rattle.tac_pass.proofs.table.entries.call_words.Given as goal

abbrev pub invariant-loop-at : goal.invariant-loop-at
invariant-loop-at l =
    (length l.words ≡ length l.fn.words) × (take l.at l.words ++ map called_word (drop l.at l.words)
    ≡ map called_word l.fn.words)
