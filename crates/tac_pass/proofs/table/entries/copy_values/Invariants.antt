use Rattle.std.proofs.Common.{◌≡◌, ◌++◌, length, take, drop}
use Rattle.tac_pass.proofs.table.entries.copy_values.Given as goal

abbrev pub invariant-loop-at : goal.invariant-loop-at
invariant-loop-at l =
    (length l.values ≡ length l.with) × (take l.at l.values ++ drop l.at l.with ≡ l.with)
