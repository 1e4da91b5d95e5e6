use Rattle.tac_code.specs.Sound.{IsObjectSize}
use Rattle.tac_code.proofs.Each.{EachBelow}
use Rattle.tac_code.proofs.tac.are_sound_objects.Given as goal

abbrev pub invariant-loop-bytes : goal.invariant-loop-bytes
invariant-loop-bytes l = EachBelow (λ _ bytes. IsObjectSize bytes) l.objects l.bytes-index
