use Rattle.ps_lower_accepted.proofs.Whole.{formed}
use Rattle.ps_lower_accepted.proofs.accepted_are_formed.Goals as goal

-- src/lib.rt:13:1
pub returns : goal.returns
returns c = formed
