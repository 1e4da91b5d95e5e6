use Rattle.std.proofs.Common.{◌≡◌, ◌++◌, length, take, drop}
use Rattle.tac_pass.specs.Tables.{hit_all}
use Rattle.tac_pass.proofs.table.entries.hit_all.Given as goal

abbrev pub invariant-loop-at : goal.invariant-loop-at
invariant-loop-at l =
    (length l.words ≡ length l.fn.words) × (take l.at l.words ++ hit_all l.reach l.bytes (drop l.at l.minded)
    (drop l.at l.words) ≡ hit_all l.reach l.bytes l.minded l.fn.words)
