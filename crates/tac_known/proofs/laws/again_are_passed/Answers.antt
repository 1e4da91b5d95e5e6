use Rattle.tac_known.proofs.AgainRoom.{again_are_passed}
use Rattle.tac_known.proofs.laws.again_are_passed.Goals as goal

pub returns : goal.returns
returns c = again_are_passed
