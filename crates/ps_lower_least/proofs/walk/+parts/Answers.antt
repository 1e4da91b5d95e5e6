use Rattle.std.proofs.Common.{sym, ap, ap₂, ◌+◌, ◌∙◌}
use Rattle.ps_tree.specs.declared.tree.ArithmeticStep.{out-ArithmeticStep}
use Rattle.ps_tree.specs.declared.tree.SetStep.{out-SetStep}
use Rattle.ps_tree.specs.View.{selector_of, expr_of, set_of, member_of, structure_of, argument_of}
use Rattle.ps_lower_least.specs.Fewest.{selector_fewest, expr_fewest, set_fewest, member_fewest, structure_fewest}
use Rattle.ps_lower_least.specs.Fewest.{argument_fewest}
use Rattle.ps_lower_least.proofs.Gathering.{adds_none, adds_as, adds_two, adds_three, gathered_start, gathered_next}
use Rattle.ps_lower_least.proofs.Gathering.{gathered_all}
use Rattle.ps_lower_least.proofs.Arms.{selectors_in, selectors_none, selectors_more, steps_in, steps_none, steps_more}
use Rattle.ps_lower_least.proofs.Arms.{operands_in, operands_none, operands_more, set_steps_in, set_steps_none}
use Rattle.ps_lower_least.proofs.Arms.{set_steps_more, members_in, members_none, members_more, arguments_in}
use Rattle.ps_lower_least.proofs.Arms.{arguments_none, arguments_more, load_fewest, load_set_fewest, constructor_fewest}
use Rattle.ps_lower_least.proofs.Arms.{contents_fewest, variable_fewest, arithmetic_fewest, logic_fewest}
use Rattle.ps_lower_least.proofs.Arms.{combine_fewest, call_fewest, call_formal_fewest, no_operand, one_operand}
use Rattle.ps_lower_least.proofs.Arms.{two_operands}
use Rattle.ps_lower_least.proofs.walk.+parts.Goals as goal

pub add_selectors-loop-selector-init : goal.add_selectors-loop-selector-init
add_selectors-loop-selector-init t c = gathered_start selectors_in _ _

pub add_selectors-loop-selector-preserved : goal.add_selectors-loop-selector-preserved
add_selectors-loop-selector-preserved t c = gathered_next selectors_in
    (λ x. selector_fewest (selector_of x)) selectors_more _ _ _ _ _ c.selector-item.result _ c.selector-item.is
    c.loop-selector-test.true c.loop-selector.invariant c.add_selector.ensures

pub add_selectors-returns : goal.add_selectors-returns
add_selectors-returns t c = gathered_all selectors_in selectors_none _ _ _ _ c.loop-selector-test.false
    c.loop-selector.invariant

pub add_arithmetic-loop-step-init : goal.add_arithmetic-loop-step-init
add_arithmetic-loop-step-init t c = gathered_start steps_in _ _

pub add_arithmetic-loop-step-preserved : goal.add_arithmetic-loop-step-preserved
add_arithmetic-loop-step-preserved t c = gathered_next steps_in
    (λ x. expr_fewest (expr_of (out-ArithmeticStep x).operand)) steps_more _ _ _ _ _ c.step-item.result _ c.step-item.is
    c.loop-step-test.true c.loop-step.invariant c.add_expr.ensures

pub add_arithmetic-returns : goal.add_arithmetic-returns
add_arithmetic-returns t c = gathered_all steps_in steps_none _ _ _ _ c.loop-step-test.false c.loop-step.invariant

pub add_operands-loop-operand-init : goal.add_operands-loop-operand-init
add_operands-loop-operand-init t c = gathered_start operands_in _ _

pub add_operands-loop-operand-preserved : goal.add_operands-loop-operand-preserved
add_operands-loop-operand-preserved t c = gathered_next operands_in
    (λ x. expr_fewest (expr_of x)) operands_more _ _ _ _ _ c.operand-item.result _ c.operand-item.is
    c.loop-operand-test.true c.loop-operand.invariant c.add_expr.ensures

pub add_operands-returns : goal.add_operands-returns
add_operands-returns t c = gathered_all operands_in operands_none _ _ _ _ c.loop-operand-test.false
    c.loop-operand.invariant

pub add_set_steps-loop-step-init : goal.add_set_steps-loop-step-init
add_set_steps-loop-step-init t c = gathered_start set_steps_in _ _

pub add_set_steps-loop-step-preserved : goal.add_set_steps-loop-step-preserved
add_set_steps-loop-step-preserved t c = gathered_next set_steps_in
    (λ x. set_fewest (set_of (out-SetStep x).operand)) set_steps_more _ _ _ _ _ c.step-item.result _ c.step-item.is
    c.loop-step-test.true c.loop-step.invariant c.add_set.ensures

pub add_set_steps-returns : goal.add_set_steps-returns
add_set_steps-returns t c = gathered_all set_steps_in set_steps_none _ _ _ _ c.loop-step-test.false
    c.loop-step.invariant

pub add_members-loop-member-init : goal.add_members-loop-member-init
add_members-loop-member-init t c = gathered_start members_in _ _

pub add_members-loop-member-preserved : goal.add_members-loop-member-preserved
add_members-loop-member-preserved t c = gathered_next members_in
    (λ x. member_fewest (member_of x)) members_more _ _ _ _ _ c.member-item.result _ c.member-item.is
    c.loop-member-test.true c.loop-member.invariant c.add_member.ensures

pub add_members-returns : goal.add_members-returns
add_members-returns t c = gathered_all members_in members_none _ _ _ _ c.loop-member-test.false c.loop-member.invariant

pub add_arguments-loop-argument-init : goal.add_arguments-loop-argument-init
add_arguments-loop-argument-init t c = gathered_start arguments_in _ _

pub add_arguments-loop-argument-preserved : goal.add_arguments-loop-argument-preserved
add_arguments-loop-argument-preserved t c = gathered_next arguments_in
    (λ x. argument_fewest (argument_of x)) arguments_more _ _ _ _ _ c.argument-item.result _ c.argument-item.is
    c.loop-argument-test.true c.loop-argument.invariant c.add_argument.ensures

pub add_arguments-returns : goal.add_arguments-returns
add_arguments-returns t c = gathered_all arguments_in arguments_none _ _ _ _ c.loop-argument-test.false
    c.loop-argument.invariant

pub add_argument-returns-in-Value : goal.add_argument-returns-in-Value
unfolding argument_of
add_argument-returns-in-Value t c = adds_as _ _ _ _
    (sym (ap (λ x. argument_fewest (argument_of x)) c.in-Value.is)) c.add_expr.ensures

pub add_argument-returns-in-Set : goal.add_argument-returns-in-Set
unfolding argument_of
add_argument-returns-in-Set t c = adds_two _ _ _ _ _ _
    (sym (ap (λ x. argument_fewest (argument_of x)) c.in-Set.is)) c.add.ensures c.add_set.ensures

pub add_argument-returns-in-Copy : goal.add_argument-returns-in-Copy
unfolding argument_of
add_argument-returns-in-Copy t c = adds_two _ _ _ _ _ _
    (sym (ap (λ x. argument_fewest (argument_of x)) c.in-Copy.is)) c.add-in-Copy.ensures c.add_structure.ensures

pub add_argument-returns-in-Variable : goal.add_argument-returns-in-Variable
add_argument-returns-in-Variable t c = adds_as _ _ _ _ (variable_fewest _ _ c.in-Variable.is) c.add_place.ensures

pub add_argument-returns-in-Routine : goal.add_argument-returns-in-Routine
unfolding argument_of
add_argument-returns-in-Routine t c = adds_as _ _ _ _
    (sym (ap (λ x. argument_fewest (argument_of x)) c.in-Routine.is)) c.add-in-Routine.ensures

pub add_argument-returns-in-Formal : goal.add_argument-returns-in-Formal
unfolding argument_of
add_argument-returns-in-Formal t c = adds_as _ _ _ _ (sym (ap (λ x. argument_fewest (argument_of x)) c.in-Formal.is))
    (adds_none _)

pub add_expr-returns-in-Load : goal.add_expr-returns-in-Load
add_expr-returns-in-Load t c = adds_as _ _ _ _ (load_fewest _ _ _ c.in-Load.is c.deref.ensures) c.add_place.ensures

pub add_expr-returns-in-Arithmetic : goal.add_expr-returns-in-Arithmetic
add_expr-returns-in-Arithmetic t c = adds_two _ _ _ _ _ _
    (arithmetic_fewest _ _ _ _ _ c.in-Arithmetic.is c.deref-in-Arithmetic.ensures c.deref-in-Arithmetic-2.ensures.value)
    c.add_expr.ensures c.add_arithmetic.ensures

pub add_expr-returns-in-Logic : goal.add_expr-returns-in-Logic
add_expr-returns-in-Logic t c = adds_two _ _ _ _ _ _
    (logic_fewest _ _ _ _ _ _ c.in-Logic.is c.deref-in-Logic.ensures c.deref-in-Logic-2.ensures.value)
    c.add_expr-in-Logic.ensures c.add_operands.ensures

pub add_expr-returns-in-CompareSets : goal.add_expr-returns-in-CompareSets
unfolding expr_of
add_expr-returns-in-CompareSets t c = adds_three _ _ _ _ _ _ _ _
    (ap₂ (λ a b. 21 + set_fewest (set_of a) + set_fewest (set_of b)) c.deref-in-CompareSets.ensures
    c.deref-in-CompareSets-2.ensures ∙ sym (ap (λ x. expr_fewest (expr_of x)) c.in-CompareSets.is)) c.add.ensures
    c.add_set.ensures c.add_set-in-CompareSets.ensures

pub add_expr-returns-in-CompareStrings : goal.add_expr-returns-in-CompareStrings
unfolding expr_of
add_expr-returns-in-CompareStrings t c = adds_two _ _ _ _ _ _
    (ap₂ (λ a b. structure_fewest (structure_of a) + structure_fewest (structure_of b))
    c.deref-in-CompareStrings.ensures
    c.deref-in-CompareStrings-2.ensures ∙ sym (ap (λ x. expr_fewest (expr_of x)) c.in-CompareStrings.is))
    c.add_structure.ensures c.add_structure-in-CompareStrings.ensures

pub add_expr-returns-in-In : goal.add_expr-returns-in-In
unfolding expr_of
add_expr-returns-in-In t c = adds_two _ _ _ _ _ _
    (ap₂ (λ a b. expr_fewest (expr_of a) + set_fewest (set_of b)) c.deref-in-In.ensures c.deref-in-In-2.ensures ∙ sym
    (ap (λ x. expr_fewest (expr_of x)) c.in-In.is)) c.add_expr-in-In.ensures c.add_set-in-In.ensures

pub add_expr-returns-in-Call : goal.add_expr-returns-in-Call
add_expr-returns-in-Call t c = adds_two _ _ _ _ _ _
    (call_fewest _ _ _ _ _ _ c.in-Call.is c.deref-in-Call.ensures.value) c.add-in-Call.ensures c.add_arguments.ensures

pub add_expr-returns-in-CallFormal : goal.add_expr-returns-in-CallFormal
add_expr-returns-in-CallFormal t c = adds_two _ _ _ _ _ _
    (call_formal_fewest _ _ _ _ _ _ c.in-CallFormal.is c.deref-in-CallFormal.ensures.value) c.add-in-CallFormal.ensures
    c.add_arguments-in-CallFormal.ensures

pub add_expr-returns-in-Number : goal.add_expr-returns-in-Number
add_expr-returns-in-Number t c = adds_as _ _ _ _ (no_operand _ c.in-Number.is) (adds_none _)

pub add_expr-returns-in-Number-2 : goal.add_expr-returns-in-Number-2
add_expr-returns-in-Number-2 t c = adds_as _ _ _ _ (no_operand _ c.in-Number.is) (adds_none _)

pub add_expr-returns-in-Number-3 : goal.add_expr-returns-in-Number-3
add_expr-returns-in-Number-3 t c = adds_as _ _ _ _ (no_operand _ c.in-Number.is) (adds_none _)

pub add_expr-returns-in-Number-4 : goal.add_expr-returns-in-Number-4
add_expr-returns-in-Number-4 t c = adds_as _ _ _ _ (no_operand _ c.in-Number.is) (adds_none _)

pub add_expr-returns-in-Compare : goal.add_expr-returns-in-Compare
add_expr-returns-in-Compare t c = adds_two _ _ _ _ _ _
    (ap₂ (λ a b. expr_fewest (expr_of a) + expr_fewest (expr_of b)) c.deref-in-Compare.ensures
    c.deref-in-Compare-2.ensures
    ∙ two_operands _ _ _ c.in-Compare.is) c.add_expr-in-Compare.ensures c.add_expr-in-Compare-2.ensures

pub add_expr-returns-in-Plus : goal.add_expr-returns-in-Plus
add_expr-returns-in-Plus t c = adds_as _ _ _ _
    (ap (λ x. expr_fewest (expr_of x)) c.deref-in-Plus.ensures ∙ one_operand _ _ c.in-Plus.is)
    c.add_expr-in-Plus.ensures

pub add_member-returns-in-One : goal.add_member-returns-in-One
unfolding member_of
add_member-returns-in-One t c = adds_as _ _ _ _
    (sym (ap (λ x. member_fewest (member_of x)) c.in-One.is)) c.add_expr.ensures

pub add_member-returns-in-Range : goal.add_member-returns-in-Range
unfolding member_of
add_member-returns-in-Range t c = adds_two _ _ _ _ _ _
    (sym (ap (λ x. member_fewest (member_of x)) c.in-Range.is)) c.add_expr-in-Range.ensures
    c.add_expr-in-Range-2.ensures

pub add_selector-returns-in-Element : goal.add_selector-returns-in-Element
unfolding selector_of
add_selector-returns-in-Element t c = adds_as _ _ _ _
    (sym (ap (λ x. selector_fewest (selector_of x)) c.in-Element.is)) c.add_expr.ensures

pub add_selector-returns-in-Field : goal.add_selector-returns-in-Field
unfolding selector_of
add_selector-returns-in-Field t c = adds_as _ _ _ _ (sym (ap (λ x. selector_fewest (selector_of x)) c.in-Field.is))
    (adds_none _)

pub add_selector-returns-in-Target : goal.add_selector-returns-in-Target
unfolding selector_of
add_selector-returns-in-Target t c = adds_as _ _ _ _ (sym (ap (λ x. selector_fewest (selector_of x)) c.in-Target.is))
    (adds_none _)

pub add_set-returns-in-Load : goal.add_set-returns-in-Load
add_set-returns-in-Load t c = adds_as _ _ _ _ (load_set_fewest _ _ _ c.in-Load.is c.deref.ensures) c.add_place.ensures

pub add_set-returns-in-Constructor : goal.add_set-returns-in-Constructor
add_set-returns-in-Constructor t c = adds_as _ _ _ _
    (constructor_fewest _ _ _ c.in-Constructor.is c.deref-in-Constructor.ensures.value) c.add_members.ensures

pub add_set-returns-in-Combine : goal.add_set-returns-in-Combine
add_set-returns-in-Combine t c = adds_two _ _ _ _ _ _
    (combine_fewest _ _ _ _ _ c.in-Combine.is c.deref-in-Combine.ensures c.deref-in-Combine-2.ensures.value)
    c.add_set.ensures c.add_set_steps.ensures

pub add_structure-returns-in-Literal : goal.add_structure-returns-in-Literal
unfolding structure_of
add_structure-returns-in-Literal t c = adds_as _ _ _ _ (sym (ap
    (λ x. structure_fewest (structure_of x)) c.in-Literal.is))
    (adds_none _)

pub add_structure-returns-in-Contents : goal.add_structure-returns-in-Contents
add_structure-returns-in-Contents t c = adds_as _ _ _ _
    (contents_fewest _ _ _ _ c.in-Contents.is c.deref.ensures) c.add_place.ensures
