use Rattle.ps_check_laws.proofs.Safe.{control_variables_are_safe}
use Rattle.ps_check_laws.proofs.control_variables_are_safe.Goals as goal

pub returns : goal.returns
returns c = control_variables_are_safe
