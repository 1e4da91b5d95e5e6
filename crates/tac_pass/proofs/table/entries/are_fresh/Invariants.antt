use Rattle.std.proofs.Common.{◌≡◌, drop}
use Rattle.tac_pass.specs.Tables.{are_fresh}
use Rattle.tac_pass.proofs.table.entries.are_fresh.Given as goal

abbrev pub invariant-loop-at : goal.invariant-loop-at
invariant-loop-at l =
    are_fresh (drop l.at l.words) ≡ are_fresh l.words
