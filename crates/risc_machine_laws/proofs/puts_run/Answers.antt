use Rattle.risc_machine_laws.proofs.Laws.{puts_run}
use Rattle.risc_machine_laws.proofs.puts_run.Goals as goal

pub returns : goal.returns
returns c = puts_run
