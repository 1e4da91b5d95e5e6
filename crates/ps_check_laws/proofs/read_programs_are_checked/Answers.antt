use Rattle.ps_check_laws.proofs.Programs.{read_programs_are_checked}
use Rattle.ps_check_laws.proofs.read_programs_are_checked.Goals as goal

pub returns : goal.returns
returns c = read_programs_are_checked
