use Rattle.ps_lower_run_time.proofs.Writes.{writes_do}
use Rattle.ps_lower_run_time.proofs.writes_are_done.Goals as goal

pub returns : goal.returns
returns c = writes_do
