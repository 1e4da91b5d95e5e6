use Rattle.std.proofs.Common.{refl, sym, ap, ◌∙◌}
use Rattle.ps_tree.specs.Counts.{nothing, capped, selector_extent, expr_extent, argument_extent, member_extent}
use Rattle.ps_tree.specs.View.{selector_of, expr_of, argument_of, member_of}
use Rattle.ps_tree.proofs.TreeLemmas.{one_operand, two_operands, expr_told, set_told, structure_told, expr_told_as}
use Rattle.ps_tree.proofs.TreeLemmas.{member_told_as, argument_told_as, load_counted, load_set_counted}
use Rattle.ps_tree.proofs.TreeLemmas.{constructor_counted, place_counted, contents_counted, variable_counted}
use Rattle.ps_tree.proofs.TreeLemmas.{arithmetic_counted, logic_counted, combine_counted, call_counted}
use Rattle.ps_tree.proofs.TreeLemmas.{call_formal_counted}
use Rattle.ps_tree.proofs.Sums.{summed_start, summed_next, summed_all, arguments_size, arguments_none, arguments_more}
use Rattle.ps_tree.proofs.Sums.{members_size, members_none, members_more, selectors_size, selector_one, selectors_none}
use Rattle.ps_tree.proofs.Sums.{selectors_more, arithmetic_size, arithmetic_one, arithmetic_none, arithmetic_more}
use Rattle.ps_tree.proofs.Sums.{operands_size, operand_one, operands_none, operands_more, set_steps_size, set_step_one}
use Rattle.ps_tree.proofs.Sums.{set_steps_none, set_steps_more}
use Rattle.ps_tree.proofs.count.+extents.Goals as goal

pub count_arguments-loop-argument-init : goal.count_arguments-loop-argument-init
count_arguments-loop-argument-init t c = summed_start arguments_size nothing _ _ refl

pub count_arguments-loop-argument-preserved : goal.count_arguments-loop-argument-preserved
count_arguments-loop-argument-preserved t c = summed_next arguments_size
    (λ x. argument_extent (argument_of x)) arguments_more nothing _ _ _ _ _ c.argument-item.result
    c.loop-argument-test.true c.loop-argument.invariant
    (c.count_argument.ensures ∙ ap (λ x. capped (argument_extent (argument_of x))) c.argument-item.is)
    c.both-total.ensures

pub count_arguments-returns : goal.count_arguments-returns
count_arguments-returns t c = summed_all arguments_size arguments_none _ _ _ c.loop-argument-test.false
    c.loop-argument.invariant

pub count_members-loop-member-init : goal.count_members-loop-member-init
count_members-loop-member-init t c = summed_start members_size nothing _ _ refl

pub count_members-loop-member-preserved : goal.count_members-loop-member-preserved
count_members-loop-member-preserved t c = summed_next members_size
    (λ x. member_extent (member_of x)) members_more nothing _ _ _ _ _ c.member-item.result c.loop-member-test.true
    c.loop-member.invariant (c.count_member.ensures ∙ ap (λ x. capped (member_extent (member_of x))) c.member-item.is)
    c.both-total.ensures

pub count_members-returns : goal.count_members-returns
count_members-returns t c = summed_all members_size members_none _ _ _ c.loop-member-test.false c.loop-member.invariant

pub count_expr-returns-in-Call : goal.count_expr-returns-in-Call
count_expr-returns-in-Call t c = c.with_node.ensures _ c.count_arguments.ensures ∙ ap capped
    (call_counted _ _ _ _ _ _ c.in-Call.is c.deref-in-Call.ensures.value)

pub count_expr-returns-in-CallFormal : goal.count_expr-returns-in-CallFormal
count_expr-returns-in-CallFormal t c = c.with_node-in-CallFormal.ensures _ c.count_arguments-in-CallFormal.ensures
    ∙ ap capped (call_formal_counted _ _ _ _ _ _ c.in-CallFormal.is c.deref-in-CallFormal.ensures.value)

pub count_selectors-loop-selector-init : goal.count_selectors-loop-selector-init
count_selectors-loop-selector-init t c = summed_start selectors_size nothing _ _ refl

pub count_selectors-loop-selector-preserved : goal.count_selectors-loop-selector-preserved
count_selectors-loop-selector-preserved t c = summed_next selectors_size selector_one selectors_more nothing _ _ _ _ _
    c.selector-item.result c.loop-selector-test.true c.loop-selector.invariant
    (c.count_selector.ensures ∙ ap (λ x. capped (selector_one x)) c.selector-item.is) c.both-total.ensures

pub count_selectors-returns : goal.count_selectors-returns
count_selectors-returns t c = summed_all selectors_size selectors_none _ _ _ c.loop-selector-test.false
    c.loop-selector.invariant

pub count_arithmetic-loop-step-init : goal.count_arithmetic-loop-step-init
count_arithmetic-loop-step-init t c = summed_start arithmetic_size nothing _ _ refl

pub count_arithmetic-loop-step-preserved : goal.count_arithmetic-loop-step-preserved
count_arithmetic-loop-step-preserved t c = summed_next arithmetic_size arithmetic_one arithmetic_more nothing _ _ _ _ _
    c.step-item.result c.loop-step-test.true c.loop-step.invariant
    (c.with_node.ensures _ c.count_expr.ensures ∙ ap (λ x. capped (arithmetic_one x)) c.step-item.is)
    c.both-total.ensures

pub count_arithmetic-returns : goal.count_arithmetic-returns
count_arithmetic-returns t c = summed_all arithmetic_size arithmetic_none _ _ _ c.loop-step-test.false
    c.loop-step.invariant

pub count_operands-loop-operand-init : goal.count_operands-loop-operand-init
count_operands-loop-operand-init t c = summed_start operands_size nothing _ _ refl

pub count_operands-loop-operand-preserved : goal.count_operands-loop-operand-preserved
count_operands-loop-operand-preserved t c = summed_next operands_size operand_one operands_more nothing _ _ _ _ _
    c.operand-item.result c.loop-operand-test.true c.loop-operand.invariant
    (c.with_node.ensures _ c.count_expr.ensures ∙ ap (λ x. capped (operand_one x)) c.operand-item.is)
    c.both-total.ensures

pub count_operands-returns : goal.count_operands-returns
count_operands-returns t c = summed_all operands_size operands_none _ _ _ c.loop-operand-test.false
    c.loop-operand.invariant

pub count_set_steps-loop-step-init : goal.count_set_steps-loop-step-init
count_set_steps-loop-step-init t c = summed_start set_steps_size nothing _ _ refl

pub count_set_steps-loop-step-preserved : goal.count_set_steps-loop-step-preserved
count_set_steps-loop-step-preserved t c = summed_next set_steps_size set_step_one set_steps_more nothing _ _ _ _ _
    c.step-item.result c.loop-step-test.true c.loop-step.invariant
    (c.with_node.ensures _ c.count_set.ensures ∙ ap (λ x. capped (set_step_one x)) c.step-item.is) c.both-total.ensures

pub count_set_steps-returns : goal.count_set_steps-returns
count_set_steps-returns t c = summed_all set_steps_size set_steps_none _ _ _ c.loop-step-test.false
    c.loop-step.invariant

pub count_place-returns : goal.count_place-returns
count_place-returns t c = c.with_node.ensures _ c.count_selectors.ensures ∙ ap capped
    (place_counted c.args.place.now _ c.deref.ensures.value)

pub count_expr-returns-in-Arithmetic : goal.count_expr-returns-in-Arithmetic
count_expr-returns-in-Arithmetic t c = c.both.ensures _ _ c.count_expr-in-Arithmetic.ensures c.count_arithmetic.ensures
    ∙ ap capped (arithmetic_counted _ _ _ _ _ c.in-Arithmetic.is c.deref-in-Arithmetic.ensures
    c.deref-in-Arithmetic-2.ensures.value)

pub count_expr-returns-in-Logic : goal.count_expr-returns-in-Logic
count_expr-returns-in-Logic t c = c.both-in-Logic.ensures _ _ c.count_expr-in-Logic.ensures c.count_operands.ensures
    ∙ ap capped (logic_counted _ _ _ _ _ _ c.in-Logic.is c.deref-in-Logic.ensures c.deref-in-Logic-2.ensures.value)

pub count_set-returns-in-Combine : goal.count_set-returns-in-Combine
count_set-returns-in-Combine t c = c.both.ensures _ _ c.count_set.ensures c.count_set_steps.ensures ∙ ap capped
    (combine_counted _ _ _ _ _ c.in-Combine.is c.deref-in-Combine.ensures c.deref-in-Combine-2.ensures.value)

pub count_structure-returns-in-Contents : goal.count_structure-returns-in-Contents
count_structure-returns-in-Contents t c = c.count_place.ensures ∙ ap capped
    (contents_counted _ _ _ _ c.in-Contents.is c.deref.ensures)

pub count_argument-returns-in-Variable : goal.count_argument-returns-in-Variable
count_argument-returns-in-Variable t c = c.with_node-in-Variable.ensures _ c.count_place.ensures ∙ ap capped
    (variable_counted _ _ c.in-Variable.is)

pub count_expr-returns-in-Load : goal.count_expr-returns-in-Load
count_expr-returns-in-Load t c = c.count_place.ensures ∙ ap capped (load_counted _ _ _ c.in-Load.is c.deref.ensures)

pub count_expr-returns-in-Apply : goal.count_expr-returns-in-Apply
unfolding expr_of expr_extent
count_expr-returns-in-Apply t c = c.with_nodes.ensures _ (c.count_expr.ensures ∙ ap expr_told c.deref-in-Apply.ensures)
    ∙ expr_told_as _ _ c.in-Apply.is

pub count_expr-returns-in-CompareSets : goal.count_expr-returns-in-CompareSets
unfolding expr_of expr_extent
count_expr-returns-in-CompareSets t c = c.binary.ensures _ _
    (c.count_set.ensures ∙ ap set_told c.deref-in-CompareSets.ensures)
    (c.count_set-in-CompareSets.ensures ∙ ap set_told c.deref-in-CompareSets-2.ensures)
    ∙ expr_told_as _ _ c.in-CompareSets.is

pub count_expr-returns-in-CompareStrings : goal.count_expr-returns-in-CompareStrings
unfolding expr_of expr_extent
count_expr-returns-in-CompareStrings t c = c.binary-in-CompareStrings.ensures _ _
    (c.count_structure.ensures ∙ ap structure_told c.deref-in-CompareStrings.ensures)
    (c.count_structure-in-CompareStrings.ensures ∙ ap structure_told c.deref-in-CompareStrings-2.ensures)
    ∙ expr_told_as _ _ c.in-CompareStrings.is

pub count_expr-returns-in-In : goal.count_expr-returns-in-In
unfolding expr_of expr_extent
count_expr-returns-in-In t c = c.binary-in-In.ensures _ _
    (c.count_expr-in-In.ensures ∙ ap expr_told c.deref-in-In.ensures)
    (c.count_set-in-In.ensures ∙ ap set_told c.deref-in-In-2.ensures) ∙ expr_told_as _ _ c.in-In.is

pub count_set-returns-in-Load : goal.count_set-returns-in-Load
count_set-returns-in-Load t c = c.count_place.ensures ∙ ap capped (load_set_counted _ _ _ c.in-Load.is c.deref.ensures)

pub count_set-returns-in-Constructor : goal.count_set-returns-in-Constructor
count_set-returns-in-Constructor t c = c.with_node.ensures _ c.count_members.ensures ∙ ap capped
    (constructor_counted _ _ _ c.in-Constructor.is c.deref-in-Constructor.ensures.value)

pub count_argument-returns-in-Value : goal.count_argument-returns-in-Value
unfolding argument_of argument_extent
count_argument-returns-in-Value t c = c.with_node.ensures _ c.count_expr.ensures ∙ argument_told_as _ _ c.in-Value.is

pub count_argument-returns-in-Set : goal.count_argument-returns-in-Set
unfolding argument_of argument_extent
count_argument-returns-in-Set t c = c.with_node-in-Set.ensures _ c.count_set.ensures ∙ argument_told_as _ _ c.in-Set.is

pub count_argument-returns-in-Copy : goal.count_argument-returns-in-Copy
unfolding argument_of argument_extent
count_argument-returns-in-Copy t c = c.two.ensures _ _ c.count_structure.ensures c.copy.ensures
    ∙ argument_told_as _ _ c.in-Copy.is

pub count_member-returns-in-One : goal.count_member-returns-in-One
unfolding member_of member_extent
count_member-returns-in-One t c = c.with_node.ensures _ c.count_expr.ensures ∙ member_told_as _ _ c.in-One.is

pub count_member-returns-in-Range : goal.count_member-returns-in-Range
unfolding member_of member_extent
count_member-returns-in-Range t c = c.two.ensures _ _ c.count_expr-in-Range.ensures c.count_expr-in-Range-2.ensures
    ∙ member_told_as _ _ c.in-Range.is

pub count_expr-returns-in-Plus : goal.count_expr-returns-in-Plus
count_expr-returns-in-Plus t c = c.with_node-in-Plus.ensures _
    (c.count_expr-in-Plus.ensures ∙ ap expr_told c.deref-in-Plus.ensures) ∙ ap capped (one_operand _ _ c.in-Plus.is)

pub count_expr-returns-in-Compare : goal.count_expr-returns-in-Compare
count_expr-returns-in-Compare t c = c.binary-in-Compare.ensures _ _
    (c.count_expr-in-Compare.ensures ∙ ap expr_told c.deref-in-Compare.ensures)
    (c.count_expr-in-Compare-2.ensures ∙ ap expr_told c.deref-in-Compare-2.ensures) ∙ ap capped
    (two_operands _ _ _ c.in-Compare.is)

pub count_selector-returns-in-Element : goal.count_selector-returns-in-Element
unfolding selector_of selector_extent
count_selector-returns-in-Element t c = c.with_node.ensures _ c.count_expr.ensures
    ∙ ap (λ s. capped (selector_extent (selector_of s))) (sym c.in-Element.is)
