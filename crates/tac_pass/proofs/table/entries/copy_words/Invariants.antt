use Rattle.std.proofs.Common.{◌≡◌, ◌++◌, length, take, drop}
use Rattle.tac_pass.proofs.table.entries.copy_words.Given as goal

abbrev pub invariant-loop-at : goal.invariant-loop-at
invariant-loop-at l =
    (length l.words ≡ length l.with) × (take l.at l.words ++ drop l.at l.with ≡ l.with)
