use Rattle.std.proofs.Common.{◌≡◌, drop}
use Rattle.tac_pass.specs.Tables.{sees_all}
use Rattle.tac_pass.proofs.table.entries.sees_all.Given as goal

abbrev pub invariant-loop-at : goal.invariant-loop-at
invariant-loop-at l =
    sees_all l.reach l.bytes (drop l.at l.minded) (drop l.at l.words) ≡ sees_all l.reach l.bytes l.minded l.words
