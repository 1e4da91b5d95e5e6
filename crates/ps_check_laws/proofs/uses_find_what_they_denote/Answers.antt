use Rattle.ps_check_laws.proofs.Found.{uses_find_what_they_denote}
use Rattle.ps_check_laws.proofs.uses_find_what_they_denote.Goals as goal

pub returns : goal.returns
returns c = uses_find_what_they_denote
