use Rattle.ps_lower_accepted.proofs.Whole.{accepted}
use Rattle.ps_lower_accepted.proofs.accepted_fit.Goals as goal

-- src/lib.rt:7:1
pub returns : goal.returns
returns c = accepted
