use Rattle.ps_tree.specs.Counts.{nothing}
use Rattle.ps_tree.proofs.Sums.{Summed}
use Rattle.ps_tree.proofs.FormalLemmas.{variables_size}
use Rattle.ps_tree.proofs.program.count_variables.Given as goal

abbrev pub invariant-loop-ty : goal.invariant-loop-ty
invariant-loop-ty l = Summed variables_size nothing l.variables l.ty-index l.total
