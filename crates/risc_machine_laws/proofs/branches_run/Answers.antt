use Rattle.risc_machine_laws.proofs.Laws.{branches_run}
use Rattle.risc_machine_laws.proofs.branches_run.Goals as goal

pub returns : goal.returns
returns c = branches_run
