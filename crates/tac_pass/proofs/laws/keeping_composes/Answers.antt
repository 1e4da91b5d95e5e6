use Rattle.tac_pass.proofs.Counting.{keeping_composes}
use Rattle.tac_pass.proofs.laws.keeping_composes.Goals as goal

pub returns : goal.returns
returns c = keeping_composes
