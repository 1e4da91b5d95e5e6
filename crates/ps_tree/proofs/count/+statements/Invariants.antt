use Rattle.ps_tree.specs.Counts.{nothing}
use Rattle.ps_tree.proofs.Sums.{Summed}
use Rattle.ps_tree.proofs.StatementLemmas.{statements_size, elements_size}
use Rattle.ps_tree.proofs.count.+statements.Given as goal

abbrev pub invariant-count_statements-loop-statement : goal.invariant-count_statements-loop-statement
invariant-count_statements-loop-statement l = Summed statements_size nothing l.statements l.statement-index l.total

abbrev pub invariant-count_elements-loop-element : goal.invariant-count_elements-loop-element
invariant-count_elements-loop-element l = Summed elements_size nothing l.elements l.element-index l.total
