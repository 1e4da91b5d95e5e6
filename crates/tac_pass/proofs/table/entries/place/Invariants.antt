use Rattle.std.proofs.Common.{◌≡◌, drop}
use Rattle.tac_pass.specs.Tables.{place_of}
use Rattle.tac_pass.proofs.Rows.{further}
use Rattle.tac_pass.proofs.table.entries.place.Given as goal

abbrev pub invariant-loop-at : goal.invariant-loop-at
invariant-loop-at l =
    place_of l.minded l.word ≡ further l.at (place_of (drop l.at l.minded) l.word)
