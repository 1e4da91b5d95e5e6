use Rattle.ps_lower_laws.proofs.Whole.{lowers_in_turns}
use Rattle.ps_lower_laws.proofs.programs_lower_in_turns.Goals as goal

pub returns : goal.returns
returns c = lowers_in_turns
