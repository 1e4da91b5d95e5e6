use Rattle.ps_check_laws.proofs.Accepted.{checked_programs_are_read}
use Rattle.ps_check_laws.proofs.checked_programs_are_read.Goals as goal

pub returns : goal.returns
returns c = checked_programs_are_read
