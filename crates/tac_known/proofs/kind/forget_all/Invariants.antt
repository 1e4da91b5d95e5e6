use Rattle.std.proofs.Common.{◌≡◌, ◌++◌, length, map, take, drop}
use Rattle.tac_known.specs.Kinds.{forget}
use Rattle.tac_known.proofs.kind.forget_all.Given as goal

abbrev pub invariant-loop-at : goal.invariant-loop-at
invariant-loop-at l =
    (length l.list ≡ length l.fn.list) × (take l.at l.list ++ map forget (drop l.at l.list) ≡ map forget l.fn.list)
