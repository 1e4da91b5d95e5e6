use Rattle.behavior.proofs.Sameness.{same_composes}
use Rattle.behavior.proofs.laws.same_composes.Goals as goal

pub returns : goal.returns
returns c = same_composes
