use Rattle.ps_needs.proofs.Needs.{needs_enough}
use Rattle.ps_needs.proofs.needs_enough.Goals as goal

pub returns : goal.returns
returns c = needs_enough
