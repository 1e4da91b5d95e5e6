use Rattle.ps_lower_least.proofs.Gathering.{Gathered}
use Rattle.ps_lower_least.proofs.Arms.{writes_in}
use Rattle.ps_lower_least.proofs.walk.add_writes.Given as goal

abbrev pub invariant-loop-parameter : goal.invariant-loop-parameter
invariant-loop-parameter l = Gathered writes_in l.fn.count l.parameters l.parameter-index l.count
