use Rattle.risc_machine_laws.proofs.Laws.{straight_lines_run}
use Rattle.risc_machine_laws.proofs.straight_lines_run.Goals as goal

pub returns : goal.returns
returns c = straight_lines_run
