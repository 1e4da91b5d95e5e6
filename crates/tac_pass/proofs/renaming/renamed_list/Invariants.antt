use Rattle.std.proofs.Common.{◌≡◌, ◌++◌, Some, drop}
use Rattle.tac_pass.specs.Acts.{and_then, renamed_list}
use Rattle.tac_pass.proofs.renaming.renamed_list.Given as goal

abbrev pub invariant-loop-at : goal.invariant-loop-at
invariant-loop-at l =
    and_then (renamed_list l.rows (drop l.at l.list)) (λ vs. Some (l.operands ++ vs)) ≡ renamed_list l.rows l.list
