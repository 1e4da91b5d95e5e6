use Rattle.ps_lower_laws.proofs.Whole.{lowers}
use Rattle.ps_lower_laws.proofs.programs_lower.Goals as goal

-- src/lib.rt:8:1
pub returns : goal.returns
returns c = lowers
