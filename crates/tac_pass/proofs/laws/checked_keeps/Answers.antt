use Rattle.tac_pass.proofs.Whole.{checked_keeps}
use Rattle.tac_pass.proofs.laws.checked_keeps.Goals as goal

pub returns : goal.returns
returns c = checked_keeps
