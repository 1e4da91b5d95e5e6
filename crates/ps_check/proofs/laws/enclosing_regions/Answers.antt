use Rattle.ps_check.proofs.PathLemmas.{blocks_are_enclosed}
use Rattle.ps_check.proofs.laws.enclosing_regions.Goals as goal

pub returns : goal.returns
returns c = blocks_are_enclosed
