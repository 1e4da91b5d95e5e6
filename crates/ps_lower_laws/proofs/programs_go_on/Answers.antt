use Rattle.ps_lower_laws.proofs.Stuck.{never_stuck}
use Rattle.ps_lower_laws.proofs.programs_go_on.Goals as goal

-- src/lib.rt:13:1
pub returns : goal.returns
returns c = never_stuck
