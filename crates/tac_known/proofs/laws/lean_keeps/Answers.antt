use Rattle.tac_known.proofs.Whole.{lean_keeps}
use Rattle.tac_known.proofs.laws.lean_keeps.Goals as goal

pub returns : goal.returns
returns c = lean_keeps
