use Rattle.ps_meaning.proofs.Laws as Laws
use Rattle.ps_meaning.proofs.fuel_only_extends.Goals as goal

pub returns : goal.returns
returns c = Laws.fuel_only_extends
