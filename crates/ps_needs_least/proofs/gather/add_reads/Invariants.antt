use Rattle.ps_needs_least.proofs.Gathering.{Gathered}
use Rattle.ps_needs_least.proofs.Arms.{reads_in}
use Rattle.ps_needs_least.proofs.gather.add_reads.Given as goal

abbrev pub invariant-loop-variable : goal.invariant-loop-variable
invariant-loop-variable l = Gathered reads_in l.fn.found l.variables l.variable-index l.found
