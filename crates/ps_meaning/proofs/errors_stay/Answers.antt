use Rattle.ps_meaning.proofs.Laws as Laws
use Rattle.ps_meaning.proofs.errors_stay.Goals as goal

pub returns : goal.returns
returns c = Laws.errors_stay
