use Rattle.ps_syntax.specs.Height.{height_of_added, height_of_expr, height_of_member, height_of_multiplied}
use Rattle.ps_syntax.specs.Height.{height_of_selector}
use Rattle.ps_syntax.proofs.Greatest.{Reached}
use Rattle.ps_syntax.proofs.heights.+expression_height.Given as goal

abbrev pub invariant-added_height-loop-added : goal.invariant-added_height-loop-added
invariant-added_height-loop-added l = Reached 4294967295 height_of_added l.terms l.added-index l.most

abbrev pub invariant-multiplied_height-loop-multiplied : goal.invariant-multiplied_height-loop-multiplied
invariant-multiplied_height-loop-multiplied l = Reached 4294967295 height_of_multiplied l.factors l.multiplied-index
    l.most

abbrev pub invariant-exprs_height-loop-expr : goal.invariant-exprs_height-loop-expr
invariant-exprs_height-loop-expr l = Reached 4294967295 height_of_expr l.exprs l.expr-index l.most

abbrev pub invariant-members_height-loop-member : goal.invariant-members_height-loop-member
invariant-members_height-loop-member l = Reached 4294967295 height_of_member l.members l.member-index l.most

abbrev pub invariant-selectors_height-loop-selector : goal.invariant-selectors_height-loop-selector
invariant-selectors_height-loop-selector l = Reached 4294967295 height_of_selector l.selectors l.selector-index l.most
