use Rattle.ps_syntax.specs.Height.{height_of_element, height_of_statement}
use Rattle.ps_syntax.proofs.Greatest.{Reached}
use Rattle.ps_syntax.proofs.heights.+statement_height.Given as goal

abbrev pub invariant-statements_height-loop-statement : goal.invariant-statements_height-loop-statement
invariant-statements_height-loop-statement l = Reached 4294967295 height_of_statement l.statements l.statement-index
    l.most

abbrev pub invariant-elements_height-loop-element : goal.invariant-elements_height-loop-element
invariant-elements_height-loop-element l = Reached 4294967295 height_of_element l.elements l.element-index l.most
