use Rattle.std.proofs.Common.{◌≡◌, drop}
use Rattle.tac_pass.specs.Certified.{are_passed}
use Rattle.tac_pass.proofs.table.entries.are_passed.Given as goal

abbrev pub invariant-loop-at : goal.invariant-loop-at
invariant-loop-at l =
    are_passed l.at (drop l.at l.values) ≡ are_passed 0 l.values
