use Rattle.ps_lower_bounds.proofs.Sound.{code_sound}
use Rattle.ps_lower_bounds.proofs.code_is_sound.Goals as goal

-- src/lib.rt:21:1
pub returns : goal.returns
returns c = code_sound
