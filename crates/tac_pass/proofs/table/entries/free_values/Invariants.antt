use Rattle.std.proofs.Common.{◌≡◌, ◌++◌, length, map, take, drop}
use Rattle.tac_pass.specs.Tables.{freed}
use Rattle.tac_pass.proofs.table.entries.free_values.Given as goal

abbrev pub invariant-loop-at : goal.invariant-loop-at
invariant-loop-at l =
    (length l.values ≡ length l.fn.values) × (take l.at l.values ++ map (freed l.temporary) (drop l.at l.values) ≡ map
    (freed l.temporary) l.fn.values)
