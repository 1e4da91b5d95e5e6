use Rattle.tac_known.proofs.Room.{lean_are_passed}
use Rattle.tac_known.proofs.laws.lean_are_passed.Goals as goal

pub returns : goal.returns
returns c = lean_are_passed
