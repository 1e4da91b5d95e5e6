use Rattle.std.proofs.Common.{◌≡◌, drop}
use Rattle.tac_pass.specs.Tables.{all_no_more, is_no_more_word}
use Rattle.tac_pass.proofs.table.entries.are_no_more_words.Given as goal

abbrev pub invariant-loop-at : goal.invariant-loop-at
invariant-loop-at l =
    all_no_more is_no_more_word (drop l.at l.from) (drop l.at l.to) ≡ all_no_more is_no_more_word l.from l.to
