use Rattle.ps_lower_least.proofs.Gathering.{Gathered}
use Rattle.ps_lower_least.proofs.Arms.{statements_in, elements_in}
use Rattle.ps_lower_least.proofs.walk.+statements.Given as goal

abbrev pub invariant-add_statements-loop-statement : goal.invariant-add_statements-loop-statement
invariant-add_statements-loop-statement l = Gathered statements_in l.fn.count l.statements l.statement-index l.count

abbrev pub invariant-add_elements-loop-element : goal.invariant-add_elements-loop-element
invariant-add_elements-loop-element l = Gathered elements_in l.fn.count l.elements l.element-index l.count
