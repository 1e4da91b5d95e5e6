use Rattle.ps_meaning.proofs.Unstopped as Unstopped
use Rattle.ps_meaning.proofs.free_never_stops.Goals as goal

pub returns : goal.returns
returns c = Unstopped.costless_never_stops
