use Rattle.ps_lower_least.proofs.Gathering.{Gathered}
use Rattle.ps_lower_least.proofs.Arms.{reads_in}
use Rattle.ps_lower_least.proofs.walk.add_reads.Given as goal

abbrev pub invariant-loop-variable : goal.invariant-loop-variable
invariant-loop-variable l = Gathered reads_in l.fn.count l.variables l.variable-index l.count
