use Rattle.std.proofs.Common.{◌≡◌, ◌++◌, length, take, drop}
use Rattle.tac_known.proofs.kind.copy_all.Given as goal

abbrev pub invariant-loop-at : goal.invariant-loop-at
invariant-loop-at l =
    (length l.list ≡ length l.with) × (take l.at l.list ++ drop l.at l.with ≡ l.with)
