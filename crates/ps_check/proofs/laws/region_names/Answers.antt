use Rattle.ps_check.proofs.NameLemmas.{names_are_points}
use Rattle.ps_check.proofs.laws.region_names.Goals as goal

pub returns : goal.returns
returns c = names_are_points
