use Rattle.tac_pass_laws.proofs.Passed.{passes_compose}
use Rattle.tac_pass_laws.proofs.passes_compose.Goals as goal

pub returns : goal.returns
returns c = passes_compose
