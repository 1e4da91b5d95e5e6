use Rattle.tac_rt.proofs.Soundness.{routines_are_sound}
use Rattle.tac_rt.proofs.laws.routines_are_sound.Goals as goal

pub returns : goal.returns
returns c = routines_are_sound
