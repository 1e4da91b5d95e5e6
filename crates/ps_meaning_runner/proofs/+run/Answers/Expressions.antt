-- The answers of variables, values and sets.

use Rattle.std.proofs.Common.{max, refl, true, rules, arith, ◌∙◌}
use Rattle.ps_tree.specs.Tree as Tree
use Rattle.ps_tree.specs.View.{set_steps_of, expr_of, set_of, members_of, place_of, selector_of, member_of}
use Rattle.ps_meaning.specs.Expressions.{access as accessed, value, set_value, members_value}
use Rattle.ps_meaning_runner.specs.Heights.{place_height, set_height, set_steps_height, members_height}
use Rattle.ps_meaning_runner.specs.Runs.{Halted, levels}
use Rattle.ps_meaning_runner.proofs.Heights.{place_is_high, expr_is_high, set_is_high}
use Rattle.ps_meaning_runner.proofs.Chains as chain
use Rattle.ps_meaning_runner.proofs.Arms as arm
use Rattle.ps_meaning_runner.specs.View.{listed, value_of, spot_of, integer_of}
use Rattle.ps_meaning_runner.specs.Worlds.{caller, context_of, world_of}
use Rattle.ps_meaning_runner.proofs.Answers.{handed_on, halted_alone, members_halt, call_runs, call_formal_runs}
use Rattle.ps_meaning_runner.proofs.Answers.{halted_then, answers_run, runs_deeper}
use Rattle.ps_meaning_runner.proofs.Trees.{set_of_Constructor}
use Rattle.ps_tree.proofs.TreeLemmas.{expr_of_Load, set_of_Load}
use Rattle.ps_meaning_runner.proofs.Tested as tested
use mir.Val.{SFits, to_z, of_z}
use Rattle.std.proofs.Math.Facts.{to_z-of_z}
use mir.Syntax.{w32}
use Rattle.ps_meaning_runner.proofs.+run.Goals as goal

pub access-returns-then-here-eq0 : goal.expressions::access-returns-then-here-eq0
access-returns-then-here-eq0 t c = place_is_high
    (place_of c.args.place.now) c.args.here.depth _ c.if-here-eq0.true

pub evaluate-returns-then-here-eq0 : goal.expressions::evaluate-returns-then-here-eq0
evaluate-returns-then-here-eq0 t c = expr_is_high
    (expr_of c.args.expression.now) c.args.here.depth _ c.if-here-eq0.true

pub evaluate_set-returns-then-here-eq0 : goal.expressions::evaluate_set-returns-then-here-eq0
evaluate_set-returns-then-here-eq0 t c = set_is_high
    (set_of c.args.expression.now) c.args.here.depth _ c.if-here-eq0.true

pub evaluate-returns-in-Call : goal.expressions::evaluate-returns-in-Call
evaluate-returns-in-Call t c = call_runs c.args.here.setup.now c.args.here.fuel
    (context_of c.args.here.context.now) (world_of c.args.world.now) c.args.expression.now _ _ _ _ _ c.call_value.result
    c.call_value.new.world c.args.here.depth c.in-Call.is c.deref-in-Call.ensures.value c.call_value.ensures

pub evaluate-returns-in-CallFormal : goal.expressions::evaluate-returns-in-CallFormal
evaluate-returns-in-CallFormal t c = call_formal_runs c.args.here.setup.now c.args.here.fuel
    (context_of c.args.here.context.now) (world_of c.args.world.now) c.args.expression.now _ _ _ _ _
    c.call_value-in-CallFormal.result c.call_value-in-CallFormal.new.world c.args.here.depth c.in-CallFormal.is
    c.deref-in-CallFormal.ensures.value c.call_value-in-CallFormal.ensures

pub evaluate_members-returns-in_err-more : goal.expressions::evaluate_members-returns-in_err-more
evaluate_members-returns-in_err-more t c =
    let h : Halted (members_value (caller c.args.here.setup.now c.args.here.fuel) (members_of c.args.members.now)
    (context_of c.args.here.context.now) (world_of c.args.world.now)) c.args.here.depth
    (levels c.args.here.setup.now c.args.here.fuel (members_height (members_of c.args.members.now)))
    c.in_err-more.field-0.0 c.evaluate_member.new.world = members_halt c.args.here.setup.now c.args.here.fuel
    (context_of c.args.here.context.now) c.args.members.now c.loop-member.member-index c.loop-member.tests.items
    c.member-item.result _ (world_of c.loop-member.world) c.evaluate_member.new.world _ c.args.here.depth
    c.loop-member.invariant c.in_err-more.ensures c.member-item.is c.loop-member-test.true in
    handed_on _ _ _ _ _ _ _ c.from_residual.ensures.1 h

pub access-returns-in_err-spot-2 : goal.expressions::access-returns-in_err-spot-2
access-returns-in_err-spot-2 t c =
    let h : Halted (accessed (caller c.args.here.setup.now c.args.here.fuel) (place_of c.args.place.now)
    (context_of c.args.here.context.now) (world_of c.args.world.now)) c.args.here.depth
    (levels c.args.here.setup.now c.args.here.fuel (place_height (place_of c.args.place.now)))
    c.in_err-spot-2.field-0.0 c.select.new.world = chain.access_halts c.args.here.setup.now c.args.here.fuel
    (context_of c.args.here.context.now) c.args.place.now c.as_slice-selector-items.result.now
    c.loop-selector.selector-index c.selector-item.result (spot_of c.loop-selector.spot) _
    (world_of c.args.world.now) (world_of c.loop-selector.world) c.select.new.world c.args.here.depth
    c.as_slice-selector-items.ensures.value c.loop-selector.invariant c.in_err-spot-2.ensures c.selector-item.is
    c.loop-selector-test.true in
    handed_on _ _ _ _ _ _ _ c.from_residual-in_err-spot-2.ensures.1 h

pub access-returns : goal.expressions::access-returns
access-returns t c =
    chain.selectors_end (caller c.args.here.setup.now c.args.here.fuel)
    (context_of c.args.here.context.now) c.as_slice-selector-items.result.now c.loop-selector.selector-index
    (spot_of c.loop-selector.spot) (world_of c.loop-selector.world) _ c.loop-selector.invariant (omega arith)

pub access-loop-selector-preserved : goal.expressions::access-loop-selector-preserved
access-loop-selector-preserved t c =
    chain.selectors_next (caller c.args.here.setup.now c.args.here.fuel)
    (context_of c.args.here.context.now) c.as_slice-selector-items.result.now c.loop-selector.selector-index
    c.selector-item.result (spot_of c.loop-selector.spot) _ (world_of c.loop-selector.world)
    (world_of c.select.new.world) _ c.loop-selector.invariant c.in_ok-spot-2.ensures c.selector-item.is
    c.loop-selector-test.true

pub access-loop-selector-init : goal.expressions::access-loop-selector-init
access-loop-selector-init t c =
    chain.access_begins (caller c.args.here.setup.now c.args.here.fuel)
    (context_of c.args.here.context.now) c.args.place.now c.as_slice-selector-items.result.now
    (spot_of c.in_ok-spot.spot) (world_of c.args.world.now) c.as_slice-selector-items.ensures.value
    c.in_ok-spot.ensures

pub combine_all-returns-in_err-tests : goal.expressions::combine_all-returns-in_err-tests
combine_all-returns-in_err-tests t c =
    let h : Halted (set_value (caller c.args.here.setup.now c.args.here.fuel)
    (Tree.Combine (set_of c.args.first.now) (set_steps_of c.args.steps.now)) (context_of c.args.here.context.now)
    (world_of c.args.world.now)) c.args.here.depth
    (levels c.args.here.setup.now c.args.here.fuel
    (max (set_height (set_of c.args.first.now)) (set_steps_height (set_steps_of c.args.steps.now))))
    c.in_err-tests.field-0.0 c.evaluate_set.new.world = chain.sets_halt_first c.args.here.setup.now c.args.here.fuel
    (context_of c.args.here.context.now) (set_of c.args.first.now) (set_steps_of c.args.steps.now) _
    (world_of c.args.world.now) c.evaluate_set.new.world c.args.here.depth c.in_err-tests.ensures in
    handed_on _ _ _ _ _ _ _ c.from_residual.ensures.1 h

pub combine_all-returns-in_err-more : goal.expressions::combine_all-returns-in_err-more
combine_all-returns-in_err-more t c =
    let h : Halted (set_value (caller c.args.here.setup.now c.args.here.fuel)
    (Tree.Combine (set_of c.args.first.now) (set_steps_of c.args.steps.now)) (context_of c.args.here.context.now)
    (world_of c.args.world.now)) c.args.here.depth
    (levels c.args.here.setup.now c.args.here.fuel
    (max (set_height (set_of c.args.first.now)) (set_steps_height (set_steps_of c.args.steps.now))))
    c.in_err-more.field-0.0 c.evaluate_set-in-loop-step.new.world = chain.sets_halt c.args.here.setup.now
    c.args.here.fuel (context_of c.args.here.context.now) c.args.steps.now c.loop-step.step-index c.step-item.result
    (listed c.loop-step.tests.items) _ (world_of c.loop-step.world) c.evaluate_set-in-loop-step.new.world _
    c.args.here.depth (set_height (set_of c.args.first.now)) c.loop-step.invariant c.in_err-more.ensures
    c.step-item.is c.loop-step-test.true in
    handed_on _ _ _ _ _ _ _ c.from_residual-in_err-more.ensures.1 h

pub combine_all-loop-step-init : goal.expressions::combine_all-loop-step-init
combine_all-loop-step-init t c =
    chain.sets_begin (caller c.args.here.setup.now c.args.here.fuel) (context_of c.args.here.context.now)
    (set_of c.args.first.now) (set_steps_of c.args.steps.now) _ (world_of c.args.world.now)
    (world_of c.evaluate_set.new.world) c.in_ok-tests.ensures

pub combine_all-loop-step-preserved : goal.expressions::combine_all-loop-step-preserved
combine_all-loop-step-preserved t c =
    chain.sets_next (caller c.args.here.setup.now c.args.here.fuel)
    (context_of c.args.here.context.now) c.args.steps.now c.loop-step.step-index c.step-item.result
    (listed c.loop-step.tests.items) _ _ (world_of c.loop-step.world)
    (world_of c.evaluate_set-in-loop-step.new.world) _ c.loop-step.invariant c.in_ok-more.ensures
    (search (rules, c.in_ok-tests-2.ensures)) c.step-item.is c.loop-step-test.true

pub combine_all-returns : goal.expressions::combine_all-returns
combine_all-returns t c =
    chain.sets_end (caller c.args.here.setup.now c.args.here.fuel)
    (context_of c.args.here.context.now) c.args.steps.now c.loop-step.step-index (listed c.loop-step.tests.items)
    (world_of c.loop-step.world) _ c.loop-step.invariant (omega arith)

pub evaluate-returns-in-Arithmetic : goal.expressions::evaluate-returns-in-Arithmetic
evaluate-returns-in-Arithmetic t c = chain.arithmetic_runs c.args.here.setup.now c.args.here.fuel
    (context_of c.args.here.context.now) (world_of c.args.world.now) c.args.expression.now _ _ _ _ c.calculate.result
    c.calculate.new.world c.args.here.depth c.in-Arithmetic.is c.deref-in-Arithmetic.ensures
    c.deref-in-Arithmetic-2.ensures.value c.calculate.ensures

pub evaluate-returns-in-Logic : goal.expressions::evaluate-returns-in-Logic
evaluate-returns-in-Logic t c = chain.logical_runs c.args.here.setup.now c.args.here.fuel
    (context_of c.args.here.context.now) (world_of c.args.world.now) c.args.expression.now _ _ _ _ _ c.combine.result
    c.combine.new.world c.args.here.depth c.in-Logic.is c.deref-in-Logic.ensures c.deref-in-Logic-2.ensures.value
    c.combine.ensures

pub evaluate_set-returns-in-Combine : goal.expressions::evaluate_set-returns-in-Combine
evaluate_set-returns-in-Combine t c = chain.combination_runs c.args.here.setup.now c.args.here.fuel
    (context_of c.args.here.context.now) (world_of c.args.world.now) c.args.expression.now _ _ _ _ c.combine_all.result
    c.combine_all.new.world c.args.here.depth c.in-Combine.is c.deref-in-Combine.ensures
    c.deref-in-Combine-2.ensures.value c.combine_all.ensures

pub evaluate-returns-in-Plus : goal.expressions::evaluate-returns-in-Plus
evaluate-returns-in-Plus t c = arm.expr_runs c.args.here.setup.now c.args.here.fuel
    (context_of c.args.here.context.now) (world_of c.args.world.now) c.args.expression.now _ _ c.evaluate.result
    c.evaluate.new.world c.args.here.depth (arm.plus_is _ _ _ c.in-Plus.is c.deref-in-Plus.ensures) refl
    c.evaluate.ensures

pub evaluate-returns-in-Compare : goal.expressions::evaluate-returns-in-Compare
evaluate-returns-in-Compare t c = arm.expr_runs c.args.here.setup.now c.args.here.fuel
    (context_of c.args.here.context.now) (world_of c.args.world.now) c.args.expression.now _ _ c.compare.result
    c.compare.new.world c.args.here.depth (arm.compare_is _ _ _ _ _ _ c.in-Compare.is c.deref-in-Compare.ensures
    c.deref-in-Compare-2.ensures) refl c.compare.ensures

pub evaluate-returns-in-ComparePointers : goal.expressions::evaluate-returns-in-ComparePointers
evaluate-returns-in-ComparePointers t c = arm.expr_runs c.args.here.setup.now c.args.here.fuel
    (context_of c.args.here.context.now) (world_of c.args.world.now) c.args.expression.now _ _
    c.compare-in-ComparePointers.result c.compare-in-ComparePointers.new.world c.args.here.depth
    (arm.compare_pointers_is _ _ _ _ _ _ c.in-ComparePointers.is c.deref-in-ComparePointers.ensures
    c.deref-in-ComparePointers-2.ensures) refl c.compare-in-ComparePointers.ensures

pub evaluate-returns-in-CompareSets : goal.expressions::evaluate-returns-in-CompareSets
evaluate-returns-in-CompareSets t c = arm.expr_runs c.args.here.setup.now c.args.here.fuel
    (context_of c.args.here.context.now) (world_of c.args.world.now) c.args.expression.now _ _ c.compare_sets.result
    c.compare_sets.new.world c.args.here.depth
    (arm.compare_sets_is _ _ _ _ _ _ c.in-CompareSets.is c.deref-in-CompareSets.ensures
    c.deref-in-CompareSets-2.ensures) refl c.compare_sets.ensures

pub evaluate-returns-in-CompareStrings : goal.expressions::evaluate-returns-in-CompareStrings
evaluate-returns-in-CompareStrings t c = arm.expr_runs c.args.here.setup.now c.args.here.fuel
    (context_of c.args.here.context.now) (world_of c.args.world.now) c.args.expression.now _ _ c.compare_strings.result
    c.compare_strings.new.world c.args.here.depth
    (arm.compare_strings_is _ _ _ _ _ _ c.in-CompareStrings.is c.deref-in-CompareStrings.ensures
    c.deref-in-CompareStrings-2.ensures) refl c.compare_strings.ensures

pub evaluate-returns-in-In : goal.expressions::evaluate-returns-in-In
evaluate-returns-in-In t c = arm.expr_runs c.args.here.setup.now c.args.here.fuel
    (context_of c.args.here.context.now) (world_of c.args.world.now) c.args.expression.now _ _ c.test_member.result
    c.test_member.new.world c.args.here.depth
    (arm.member_is _ _ _ _ _ c.in-In.is c.deref-in-In.ensures c.deref-in-In-2.ensures) refl c.test_member.ensures

pub evaluate-returns-in-Eof : goal.expressions::evaluate-returns-in-Eof
unfolding expr_of value_of integer_of
evaluate-returns-in-Eof t c = grind (arith, answers_run)

pub evaluate-returns-in-Eoln : goal.expressions::evaluate-returns-in-Eoln
unfolding expr_of value_of integer_of
evaluate-returns-in-Eoln t c = grind (arith, answers_run)

pub evaluate-returns-in_ok-evaluate-in-Apply : goal.expressions::evaluate-returns-in_ok-evaluate-in-Apply
unfolding expr_of value_of integer_of
evaluate-returns-in_ok-evaluate-in-Apply t c = grind (arith, answers_run)

pub evaluate-returns-in_ok-evaluate-in-Minus : goal.expressions::evaluate-returns-in_ok-evaluate-in-Minus
unfolding expr_of value_of integer_of
evaluate-returns-in_ok-evaluate-in-Minus t c = grind (arith, answers_run)

pub evaluate-returns-in_err-evaluate-in-Apply : goal.expressions::evaluate-returns-in_err-evaluate-in-Apply
unfolding expr_of value_of integer_of
evaluate-returns-in_err-evaluate-in-Apply t c = grind (arith, halted_then)

pub evaluate-returns-in_err-evaluate-in-Minus : goal.expressions::evaluate-returns-in_err-evaluate-in-Minus
unfolding expr_of value_of integer_of
evaluate-returns-in_err-evaluate-in-Minus t c = grind (arith, halted_then)

pub evaluate-returns-in_err-evaluate-in-Not : goal.expressions::evaluate-returns-in_err-evaluate-in-Not
unfolding expr_of value_of integer_of
evaluate-returns-in_err-evaluate-in-Not t c = grind (arith, halted_then)

pub evaluate-returns-in_err-spot-in-Load : goal.expressions::evaluate-returns-in_err-spot-in-Load
unfolding expr_of value_of integer_of
evaluate-returns-in_err-spot-in-Load t c = grind (arith, halted_then, expr_of_Load)

pub evaluate-returns-in_ok-spot-in-Load : goal.expressions::evaluate-returns-in_ok-spot-in-Load
unfolding expr_of value_of integer_of
evaluate-returns-in_ok-spot-in-Load t c = grind (arith, answers_run, expr_of_Load)

pub evaluate_member-returns-in_err-evaluate-in-One : goal.expressions::evaluate_member-returns-in_err-evaluate-in-One
unfolding member_of
evaluate_member-returns-in_err-evaluate-in-One t c = grind (arith, halted_then)

pub evaluate_member-returns-in_err-evaluate-in-Range
    : goal.expressions::evaluate_member-returns-in_err-evaluate-in-Range
unfolding member_of
evaluate_member-returns-in_err-evaluate-in-Range t c = grind (arith, halted_then)

pub evaluate_member-returns-in_err-evaluate-in-Range-2
    : goal.expressions::evaluate_member-returns-in_err-evaluate-in-Range-2
unfolding member_of
evaluate_member-returns-in_err-evaluate-in-Range-2 t c = grind (arith, halted_then)

pub evaluate_member-returns-in_ok-evaluate-in-One : goal.expressions::evaluate_member-returns-in_ok-evaluate-in-One
unfolding member_of
evaluate_member-returns-in_ok-evaluate-in-One t c = grind (arith, answers_run)

pub evaluate_set-returns-in-Constructor : goal.expressions::evaluate_set-returns-in-Constructor
unfolding set_of
evaluate_set-returns-in-Constructor t c = grind (arith, runs_deeper, set_of_Constructor)

pub evaluate_set-returns-in_err-spot-in-Load : goal.expressions::evaluate_set-returns-in_err-spot-in-Load
unfolding set_of
evaluate_set-returns-in_err-spot-in-Load t c = grind (arith, halted_then, set_of_Load)

pub evaluate_set-returns-in_ok-spot-in-Load : goal.expressions::evaluate_set-returns-in_ok-spot-in-Load
unfolding set_of
evaluate_set-returns-in_ok-spot-in-Load t c = grind (arith, answers_run, set_of_Load)

pub evaluate_truth-returns-in_err-x : goal.expressions::evaluate_truth-returns-in_err-x
evaluate_truth-returns-in_err-x t c = handed_on _ _ _ _ _ _ _ c.from_residual.ensures.1
    (halted_alone c.args.here.setup.now c.args.here.fuel _ _ _ _ _ _ c.in_err-x.ensures)

pub select-returns-in_err-evaluate-in-Element : goal.expressions::select-returns-in_err-evaluate-in-Element
unfolding selector_of
select-returns-in_err-evaluate-in-Element t c = grind (arith, halted_then)

pub select-returns-in-Target : goal.expressions::select-returns-in-Target
unfolding selector_of
select-returns-in-Target t c = grind (arith, answers_run)

pub evaluate_member-returns-in_ok-evaluate-in-Range-2
    : goal.expressions::evaluate_member-returns-in_ok-evaluate-in-Range-2
evaluate_member-returns-in_ok-evaluate-in-Range-2 t c =
    let low : SFits w32 c.number-x-in-Range.result = search rules in
    let high : SFits w32 c.number-y.result = search rules in
    tested.range_runs c.args.here.setup.now c.args.here.fuel
    (context_of c.args.here.context.now) c.args.member.now _ _ _ _ _ (to_z w32 (of_z w32 c.number-x-in-Range.result))
    (to_z w32 (of_z w32 c.number-y.result)) _ _ _ _ _ c.args.here.depth _ c.in-Range.is
    c.in_ok-evaluate-in-Range.ensures c.in_ok-evaluate-in-Range-2.ensures
    c.set_between-in-Range.ensures (to_z-of_z low ∙ c.number-x-in-Range.ensures)
    (to_z-of_z high ∙ c.number-y.ensures)

pub select-returns-in_ok-evaluate-in-Element : goal.expressions::select-returns-in_ok-evaluate-in-Element
select-returns-in_ok-evaluate-in-Element t c = tested.element_runs c.args.here.setup.now c.args.here.fuel
    (context_of c.args.here.context.now) c.args.selector.now _ _ _ (spot_of c.args.spot) _ _ _ _ _ _ _
    c.args.here.depth _ c.in-Element.is c.in_ok-evaluate-in-Element.ensures c.component_of.ensures
    c.index_of.ensures (grind (arith, c.number-x.ensures))
