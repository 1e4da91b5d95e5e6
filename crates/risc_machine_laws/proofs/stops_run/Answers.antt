use Rattle.risc_machine_laws.proofs.Laws.{stops_run}
use Rattle.risc_machine_laws.proofs.stops_run.Goals as goal

pub returns : goal.returns
returns c = stops_run
