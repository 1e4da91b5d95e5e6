use Rattle.tac_pass.proofs.Passing.{passed_keeps}
use Rattle.tac_pass.proofs.laws.passed_keeps.Goals as goal

pub returns : goal.returns
returns c = passed_keeps
