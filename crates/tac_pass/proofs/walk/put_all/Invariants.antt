use Rattle.std.proofs.Common.{ℕ}
use Rattle.tac_pass.specs.Walk.{ArePutIn}
use Rattle.tac_pass.proofs.walk.put_all.Given as goal

abbrev pub invariant-loop-at : goal.invariant-loop-at
invariant-loop-at l =
    (r : ℕ) → ArePutIn r l.minded l.fn.rows l.fn.out.items l.at l.rows l.out.items
