use Rattle.ps_lower.proofs.Searches.{Passed, statements_in, elements_in}
use Rattle.ps_lower.proofs.calling.+calling_statements.Given as goal

abbrev pub invariant-statements_call_in-loop-statement : goal.invariant-statements_call_in-loop-statement
invariant-statements_call_in-loop-statement l = Passed (statements_in l.levels) l.statements l.statement-index

abbrev pub invariant-elements_call_in-loop-element : goal.invariant-elements_call_in-loop-element
invariant-elements_call_in-loop-element l = Passed (elements_in l.levels) l.elements l.element-index
