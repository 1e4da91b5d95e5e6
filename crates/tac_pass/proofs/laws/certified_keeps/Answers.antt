use Rattle.tac_pass.proofs.Certified.{certified_keeps}
use Rattle.tac_pass.proofs.laws.certified_keeps.Goals as goal

pub returns : goal.returns
returns c = certified_keeps
