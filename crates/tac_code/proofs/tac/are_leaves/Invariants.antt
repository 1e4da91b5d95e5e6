use Rattle.tac_code.specs.Sound.{IsLeaf}
use Rattle.tac_code.proofs.Each.{EachBelow}
use Rattle.tac_code.proofs.tac.are_leaves.Given as goal

abbrev pub invariant-loop-routine : goal.invariant-loop-routine
invariant-loop-routine l = EachBelow (λ _ routine. IsLeaf routine) l.routines l.routine-index
