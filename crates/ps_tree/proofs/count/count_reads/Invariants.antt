use Rattle.ps_tree.specs.Counts.{nothing}
use Rattle.ps_tree.proofs.Sums.{Summed, reads_size}
use Rattle.ps_tree.proofs.count.count_reads.Given as goal

abbrev pub invariant-loop-variable : goal.invariant-loop-variable
invariant-loop-variable l = Summed reads_size nothing l.variables l.variable-index l.total
