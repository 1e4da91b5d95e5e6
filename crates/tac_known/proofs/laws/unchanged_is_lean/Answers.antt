use Rattle.tac_known.proofs.Itself.{unchanged_is_lean}
use Rattle.tac_known.proofs.laws.unchanged_is_lean.Goals as goal

pub returns : goal.returns
returns c = unchanged_is_lean
