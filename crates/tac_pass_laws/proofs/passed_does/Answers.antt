use Rattle.tac_pass_laws.proofs.Passed.{passed_does}
use Rattle.tac_pass_laws.proofs.passed_does.Goals as goal

pub returns : goal.returns
returns c = passed_does
