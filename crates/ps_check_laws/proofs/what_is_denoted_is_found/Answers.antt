use Rattle.ps_check_laws.proofs.Denoted.{what_is_denoted_is_found}
use Rattle.ps_check_laws.proofs.what_is_denoted_is_found.Goals as goal

pub returns : goal.returns
returns c = what_is_denoted_is_found
