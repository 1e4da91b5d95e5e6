use Rattle.ps_lower.proofs.Appends.{Added}
use Rattle.ps_lower.proofs.Elements.{Opened}
use Rattle.ps_lower.proofs.Rows.{statements_added}
use Rattle.ps_lower.specs.Levels.{scope_of}
use Rattle.ps_lower.proofs.statements.+statements.Given as goal

abbrev pub invariant-statements-loop-one : goal.invariant-statements-loop-one
invariant-statements-loop-one l = Added (statements_added (scope_of l.level) l.d) l.fn.out l.statements l.one-index
    l.out

abbrev pub invariant-act_elements-loop-element : goal.invariant-act_elements-loop-element
invariant-act_elements-loop-element l = Opened (scope_of l.level) l.d l.fn.out l.elements l.element-index l.out
    l.ends.items
