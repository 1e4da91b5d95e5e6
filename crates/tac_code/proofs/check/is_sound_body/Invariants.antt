use Rattle.tac_code.specs.Sound.{IsSoundAt}
use Rattle.tac_code.proofs.Each.{EachBelow}
use Rattle.tac_code.proofs.check.is_sound_body.Given as goal

abbrev pub invariant-loop-place : goal.invariant-loop-place
invariant-loop-place l = EachBelow (IsSoundAt l.limits) l.body l.place
