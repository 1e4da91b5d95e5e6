use Rattle.risc_machine_laws.proofs.Laws.{takes_run}
use Rattle.risc_machine_laws.proofs.takes_run.Goals as goal

pub returns : goal.returns
returns c = takes_run
