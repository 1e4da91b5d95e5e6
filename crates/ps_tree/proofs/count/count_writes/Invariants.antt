use Rattle.ps_tree.specs.Counts.{nothing}
use Rattle.ps_tree.proofs.Sums.{Summed, writes_size}
use Rattle.ps_tree.proofs.count.count_writes.Given as goal

abbrev pub invariant-loop-parameter : goal.invariant-loop-parameter
invariant-loop-parameter l = Summed writes_size nothing l.parameters l.parameter-index l.total
