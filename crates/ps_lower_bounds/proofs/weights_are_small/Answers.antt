use Rattle.ps_lower_bounds.proofs.WeighedStatements.{weights_small}
use Rattle.ps_lower_bounds.proofs.weights_are_small.Goals as goal

pub returns : goal.returns
returns c = weights_small
