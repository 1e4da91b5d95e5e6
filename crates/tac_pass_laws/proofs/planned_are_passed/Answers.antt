use Rattle.tac_pass_laws.proofs.Passed.{planned_are_passed}
use Rattle.tac_pass_laws.proofs.planned_are_passed.Goals as goal

pub returns : goal.returns
returns c = planned_are_passed
