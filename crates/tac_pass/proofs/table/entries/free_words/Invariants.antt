use Rattle.std.proofs.Common.{◌≡◌, ◌++◌, length, map, take, drop}
use Rattle.tac_pass.specs.Tables.{freed_word}
use Rattle.tac_pass.proofs.table.entries.free_words.Given as goal

abbrev pub invariant-loop-at : goal.invariant-loop-at
invariant-loop-at l =
    (length l.words ≡ length l.fn.words) × (take l.at l.words ++ map (freed_word l.temporary) (drop l.at l.words) ≡ map
    (freed_word l.temporary) l.fn.words)
