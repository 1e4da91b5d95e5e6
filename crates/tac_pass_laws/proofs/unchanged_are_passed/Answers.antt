use Rattle.tac_pass_laws.proofs.Passed.{unchanged_are_passed}
use Rattle.tac_pass_laws.proofs.unchanged_are_passed.Goals as goal

pub returns : goal.returns
returns c = unchanged_are_passed
