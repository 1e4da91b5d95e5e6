use Rattle.ps_meaning.proofs.Laws as Laws
use Rattle.ps_meaning.proofs.limits_only_stop.Goals as goal

pub returns : goal.returns
returns c = Laws.limits_only_stop
