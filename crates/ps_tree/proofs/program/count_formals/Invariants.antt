use Rattle.ps_tree.specs.Counts.{nothing}
use Rattle.ps_tree.proofs.Sums.{Summed}
use Rattle.ps_tree.proofs.FormalLemmas.{formals_size}
use Rattle.ps_tree.proofs.program.count_formals.Given as goal

abbrev pub invariant-loop-formal : goal.invariant-loop-formal
invariant-loop-formal l = Summed formals_size nothing l.formals l.formal-index l.total
