use Rattle.risc_machine_laws.proofs.Laws.{any_lines_run}
use Rattle.risc_machine_laws.proofs.any_lines_run.Goals as goal

pub returns : goal.returns
returns c = any_lines_run
