use Rattle.std.proofs.Common.{◌≡◌, drop}
use Rattle.tac_pass.specs.Certified.{are_new}
use Rattle.tac_pass.proofs.table.entries.are_new.Given as goal

abbrev pub invariant-loop-at : goal.invariant-loop-at
invariant-loop-at l =
    are_new (drop l.at l.words) ≡ are_new l.words
