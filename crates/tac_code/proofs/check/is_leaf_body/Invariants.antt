use Rattle.tac_code.specs.Sound.{CallsNone}
use Rattle.tac_code.proofs.Each.{EachBelow}
use Rattle.tac_code.proofs.check.is_leaf_body.Given as goal

abbrev pub invariant-loop-instruction : goal.invariant-loop-instruction
invariant-loop-instruction l = EachBelow (λ _ i. CallsNone i) l.body l.instruction-index
