use Rattle.ps_syntax.specs.Height.{height_of_added, height_of_expr, height_of_member, height_of_multiplied}
use Rattle.ps_syntax.specs.Height.{height_of_selector}
use Rattle.ps_syntax.proofs.Greatest.{reached_end}
use Rattle.ps_syntax.proofs.HeightLemmas.{added_is, expr_Compare_told, expr_Simple_told, factor_Call_told}
use Rattle.ps_syntax.proofs.HeightLemmas.{factor_Group_told, factor_Not_told, factor_Set_told, factor_Variable_told}
use Rattle.ps_syntax.proofs.HeightLemmas.{limit, member_One_told, member_Range_told, multiplied_is, reached_on}
use Rattle.ps_syntax.proofs.HeightLemmas.{selector_Index_told, simple_told, term_told, told_as, variable_told}
use Rattle.ps_syntax.proofs.heights.+expression_height.Goals as goal

pub added_height-loop-added-preserved : goal.added_height-loop-added-preserved
added_height-loop-added-preserved t c = reached_on height_of_added _ _ _ _ _ _ c.loop-added-test.true c.added-item.is
    c.loop-added.invariant (told_as _ _ _ c.term_height.ensures (added_is _)) c.max-most.ensures

pub added_height-returns : goal.added_height-returns
added_height-returns t c = reached_end limit height_of_added _ _ _ c.loop-added-test.false c.loop-added.invariant

pub multiplied_height-loop-multiplied-preserved : goal.multiplied_height-loop-multiplied-preserved
multiplied_height-loop-multiplied-preserved t c = reached_on height_of_multiplied _ _ _ _ _ _
    c.loop-multiplied-test.true c.multiplied-item.is c.loop-multiplied.invariant
    (told_as _ _ _ c.factor_height.ensures (multiplied_is _)) c.max-most.ensures

pub multiplied_height-returns : goal.multiplied_height-returns
multiplied_height-returns t c = reached_end limit height_of_multiplied _ _ _ c.loop-multiplied-test.false
    c.loop-multiplied.invariant

pub exprs_height-loop-expr-preserved : goal.exprs_height-loop-expr-preserved
exprs_height-loop-expr-preserved t c = reached_on height_of_expr _ _ _ _ _ _ c.loop-expr-test.true c.expr-item.is
    c.loop-expr.invariant c.expr_height.ensures c.max-most.ensures

pub exprs_height-returns : goal.exprs_height-returns
exprs_height-returns t c = reached_end limit height_of_expr _ _ _ c.loop-expr-test.false c.loop-expr.invariant

pub members_height-loop-member-preserved : goal.members_height-loop-member-preserved
members_height-loop-member-preserved t c = reached_on height_of_member _ _ _ _ _ _ c.loop-member-test.true
    c.member-item.is c.loop-member.invariant c.member_height.ensures c.max-most.ensures

pub members_height-returns : goal.members_height-returns
members_height-returns t c = reached_end limit height_of_member _ _ _ c.loop-member-test.false c.loop-member.invariant

pub selectors_height-loop-selector-preserved : goal.selectors_height-loop-selector-preserved
selectors_height-loop-selector-preserved t c = reached_on height_of_selector _ _ _ _ _ _ c.loop-selector-test.true
    c.selector-item.is c.loop-selector.invariant c.selector_height.ensures c.max-most.ensures

pub selectors_height-returns : goal.selectors_height-returns
selectors_height-returns t c = reached_end limit height_of_selector _ _ _ c.loop-selector-test.false
    c.loop-selector.invariant

pub expr_height-returns-in-Simple : goal.expr_height-returns-in-Simple
expr_height-returns-in-Simple t c = expr_Simple_told _ _ _ _ c.in-Simple.is c.simple_height.ensures
    c.saturating_add.ensures

pub expr_height-returns-in-Compare : goal.expr_height-returns-in-Compare
expr_height-returns-in-Compare t c = expr_Compare_told _ _ _ _ _ _ _ _ _ _ c.in-Compare.is
    c.simple_height-in-Compare.ensures c.get.ensures c.simple_height-in-Compare-2.ensures c.max.ensures
    c.saturating_add-in-Compare.ensures

pub factor_height-returns-in-Variable : goal.factor_height-returns-in-Variable
factor_height-returns-in-Variable t c = factor_Variable_told _ _ _ c.in-Variable.is c.variable_height.ensures

pub factor_height-returns-in-Call : goal.factor_height-returns-in-Call
factor_height-returns-in-Call t c = factor_Call_told _ _ _ _ _ c.in-Call.is c.as_slice.ensures c.exprs_height.ensures

pub factor_height-returns-in-Set : goal.factor_height-returns-in-Set
factor_height-returns-in-Set t c = factor_Set_told _ _ _ _ _ c.in-Set.is c.as_slice-in-Set.ensures
    c.members_height.ensures

pub factor_height-returns-in-Group : goal.factor_height-returns-in-Group
factor_height-returns-in-Group t c = factor_Group_told _ _ _ _ _ _ _ c.in-Group.is c.get.ensures c.expr_height.ensures
    c.saturating_add.ensures

pub factor_height-returns-in-Not : goal.factor_height-returns-in-Not
factor_height-returns-in-Not t c = factor_Not_told _ _ _ _ _ _ c.in-Not.is c.get-in-Not.ensures c.factor_height.ensures
    c.saturating_add-in-Not.ensures

pub member_height-returns-in-One : goal.member_height-returns-in-One
member_height-returns-in-One t c = member_One_told _ _ _ _ c.in-One.is c.get.ensures c.expr_height.ensures

pub member_height-returns-in-Range : goal.member_height-returns-in-Range
member_height-returns-in-Range t c = member_Range_told _ _ _ _ _ _ _ _ c.in-Range.is c.get-in-Range.ensures
    c.expr_height-in-Range.ensures c.get-in-Range-2.ensures c.expr_height-in-Range-2.ensures c.max.ensures

pub selector_height-returns-in-Index : goal.selector_height-returns-in-Index
selector_height-returns-in-Index t c = selector_Index_told _ _ _ _ c.in-Index.is c.as_slice.ensures
    c.exprs_height.ensures

pub simple_height-returns : goal.simple_height-returns
simple_height-returns t c = simple_told _ _ _ _ _ c.term_height.ensures c.as_slice.ensures c.added_height.ensures
    c.max.ensures

pub term_height-returns : goal.term_height-returns
term_height-returns t c = term_told _ _ _ _ _ c.factor_height.ensures c.as_slice.ensures c.multiplied_height.ensures
    c.max.ensures

pub variable_height-returns : goal.variable_height-returns
variable_height-returns t c = variable_told _ _ _ c.as_slice.ensures c.selectors_height.ensures
