use Rattle.ps_check_laws.proofs.Programs.{one_program_is_read}
use Rattle.ps_check_laws.proofs.one_program_is_read.Goals as goal

pub returns : goal.returns
returns c = one_program_is_read
