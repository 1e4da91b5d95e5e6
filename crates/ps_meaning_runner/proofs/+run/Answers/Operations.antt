-- The answers of operators.

use Rattle.std.proofs.Common.{max, ◌+◌, ◌∙◌, ap, sym, drop, true, arith}
use Rattle.ps_tree.specs.Tree as Tree
use Rattle.ps_tree.specs.View.{arithmetic_of, operands_of, expr_of}
use Rattle.ps_meaning.specs.Expressions.{value, combined}
use Rattle.ps_meaning.specs.Values.{number_of}
use Rattle.ps_meaning.specs.Worlds as m
use Rattle.ps_meaning_runner.specs.Heights.{expr_height, steps_height, operands_height}
use Rattle.ps_meaning_runner.specs.Runs.{Halted, levels}
use Rattle.ps_meaning_runner.proofs.Acts as a
use Rattle.ps_meaning_runner.proofs.Chains as chain
use Rattle.ps_meaning_runner.specs.View.{value_of}
use Rattle.ps_meaning_runner.specs.Worlds.{Stopped, caller, context_of, world_of}
use Rattle.ps_meaning_runner.proofs.Answers.{handed_on, halted_left, halted_right, stopped_halts}
use Rattle.ps_meaning_runner.proofs.+run.Goals as goal

pub calculate-returns-in_err-x : goal.operations::calculate-returns-in_err-x
calculate-returns-in_err-x t c =
    let h : Halted (value (caller c.args.here.setup.now c.args.here.fuel)
    (Tree.Arithmetic (expr_of c.args.first.now) (arithmetic_of c.args.steps.now))
    (context_of c.args.here.context.now) (world_of c.args.world.now)) c.args.here.depth
    (levels c.args.here.setup.now c.args.here.fuel
    (max (expr_height (expr_of c.args.first.now)) (steps_height (arithmetic_of c.args.steps.now))))
    c.in_err-x.field-0.0 c.evaluate.new.world = chain.steps_halt_first c.args.here.setup.now c.args.here.fuel
    (context_of c.args.here.context.now) (expr_of c.args.first.now) (arithmetic_of c.args.steps.now) _
    (world_of c.args.world.now) c.evaluate.new.world c.args.here.depth c.in_err-x.ensures in
    handed_on _ _ _ _ _ _ _ c.from_residual.ensures.1 h

pub calculate-returns-in_err-y : goal.operations::calculate-returns-in_err-y
calculate-returns-in_err-y t c =
    let h : Halted (value (caller c.args.here.setup.now c.args.here.fuel)
    (Tree.Arithmetic (expr_of c.args.first.now) (arithmetic_of c.args.steps.now))
    (context_of c.args.here.context.now) (world_of c.args.world.now)) c.args.here.depth
    (levels c.args.here.setup.now c.args.here.fuel
    (max (expr_height (expr_of c.args.first.now)) (steps_height (arithmetic_of c.args.steps.now))))
    c.in_err-y.field-0.0 c.evaluate-in-loop-step.new.world = chain.steps_halt c.args.here.setup.now c.args.here.fuel
    (context_of c.args.here.context.now) c.args.steps.now c.loop-step.step-index c.step-item.result
    (number_of (value_of c.loop-step.x)) _ (world_of c.loop-step.world) c.evaluate-in-loop-step.new.world _
    c.args.here.depth (expr_height (expr_of c.args.first.now)) c.loop-step.invariant c.in_err-y.ensures
    c.step-item.is c.loop-step-test.true in
    handed_on _ _ _ _ _ _ _ c.from_residual-in_err-y.ensures.1 h

pub calculate-returns-in_err-x-2 : goal.operations::calculate-returns-in_err-x-2
calculate-returns-in_err-x-2 t c =
    let stopped : Stopped (value (caller c.args.here.setup.now c.args.here.fuel)
    (Tree.Arithmetic (expr_of c.args.first.now) (arithmetic_of c.args.steps.now))
    (context_of c.args.here.context.now) (world_of c.args.world.now)) c.in_err-x-2.field-0.0
    c.evaluate-in-loop-step.new.world = chain.steps_stop (caller c.args.here.setup.now c.args.here.fuel)
    (context_of c.args.here.context.now) c.args.steps.now c.loop-step.step-index c.step-item.result
    (number_of (value_of c.loop-step.x)) (value_of c.in_ok-y.y) _ (world_of c.loop-step.world)
    (world_of c.evaluate-in-loop-step.new.world) c.evaluate-in-loop-step.new.world _ c.loop-step.invariant
    c.in_ok-y.ensures c.in_err-x-2.ensures c.step-item.is c.loop-step-test.true in
    let h : Halted (value (caller c.args.here.setup.now c.args.here.fuel)
    (Tree.Arithmetic (expr_of c.args.first.now) (arithmetic_of c.args.steps.now))
    (context_of c.args.here.context.now) (world_of c.args.world.now)) c.args.here.depth
    (levels c.args.here.setup.now c.args.here.fuel
    (max (expr_height (expr_of c.args.first.now)) (steps_height (arithmetic_of c.args.steps.now))))
    c.in_err-x-2.field-0.0 c.evaluate-in-loop-step.new.world = stopped_halts _ _ _ _ _ stopped in
    handed_on _ _ _ _ _ _ _ c.from_residual-in_err-x-2.ensures.1 h

pub calculate-loop-step-init : goal.operations::calculate-loop-step-init
calculate-loop-step-init t c =
    chain.steps_begin (caller c.args.here.setup.now c.args.here.fuel) (context_of c.args.here.context.now)
    (expr_of c.args.first.now) (arithmetic_of c.args.steps.now) _ (world_of c.args.world.now)
    (world_of c.evaluate.new.world) c.in_ok-x.ensures

pub calculate-loop-step-preserved : goal.operations::calculate-loop-step-preserved
calculate-loop-step-preserved t c =
    chain.steps_next (caller c.args.here.setup.now c.args.here.fuel)
    (context_of c.args.here.context.now) c.args.steps.now c.loop-step.step-index c.step-item.result
    (number_of (value_of c.loop-step.x)) (value_of c.in_ok-y.y) _ (world_of c.loop-step.world)
    (world_of c.evaluate-in-loop-step.new.world) _ _ c.loop-step.invariant c.in_ok-y.ensures c.in_ok-x-2.ensures
    c.step-item.is c.loop-step-test.true

pub calculate-returns : goal.operations::calculate-returns
calculate-returns t c =
    chain.steps_end (caller c.args.here.setup.now c.args.here.fuel)
    (context_of c.args.here.context.now) c.args.steps.now c.loop-step.step-index
    (number_of (value_of c.loop-step.x)) (world_of c.loop-step.world) _ c.loop-step.invariant (omega arith)
    ∙ ap (λ k. m.Gives k (world_of c.loop-step.world)) (sym c.ordinal.ensures)

pub combine-returns-in_err-x : goal.operations::combine-returns-in_err-x
combine-returns-in_err-x t c =
    let h : Halted (value (caller c.args.here.setup.now c.args.here.fuel)
    (Tree.Logic c.args.operator (expr_of c.args.first.now) (operands_of c.args.rest.now))
    (context_of c.args.here.context.now) (world_of c.args.world.now)) c.args.here.depth
    (levels c.args.here.setup.now c.args.here.fuel
    (max (expr_height (expr_of c.args.first.now)) (operands_height (operands_of c.args.rest.now))))
    c.in_err-x.field-0.0 c.evaluate_truth.new.world = chain.operands_halt_first c.args.here.setup.now c.args.here.fuel
    (context_of c.args.here.context.now) c.args.operator (expr_of c.args.first.now) (operands_of c.args.rest.now) _
    (world_of c.args.world.now) c.evaluate_truth.new.world c.args.here.depth c.in_err-x.ensures in
    handed_on _ _ _ _ _ _ _ c.from_residual.ensures.1 h

pub combine-returns-in_err-y : goal.operations::combine-returns-in_err-y
combine-returns-in_err-y t c =
    let h : Halted (value (caller c.args.here.setup.now c.args.here.fuel)
    (Tree.Logic c.args.operator (expr_of c.args.first.now) (operands_of c.args.rest.now))
    (context_of c.args.here.context.now) (world_of c.args.world.now)) c.args.here.depth
    (levels c.args.here.setup.now c.args.here.fuel
    (max (expr_height (expr_of c.args.first.now)) (operands_height (operands_of c.args.rest.now))))
    c.in_err-y.field-0.0 c.evaluate_truth-in-loop-operand.new.world = chain.operands_halt c.args.here.setup.now
    c.args.here.fuel (context_of c.args.here.context.now) c.args.operator c.args.rest.now
    c.loop-operand.operand-index c.operand-item.result c.loop-operand.x _
    (world_of c.loop-operand.world) c.evaluate_truth-in-loop-operand.new.world _ c.args.here.depth
    (expr_height (expr_of c.args.first.now)) c.loop-operand.invariant c.in_err-y.ensures c.operand-item.is
    c.loop-operand-test.true in
    handed_on _ _ _ _ _ _ _ c.from_residual-in_err-y.ensures.1 h

pub combine-loop-operand-init : goal.operations::combine-loop-operand-init
combine-loop-operand-init t c =
    chain.operands_begin c.args.here.setup.now c.args.here.fuel (context_of c.args.here.context.now) c.args.operator
    (expr_of c.args.first.now) (operands_of c.args.rest.now) _ (world_of c.args.world.now)
    (world_of c.evaluate_truth.new.world) c.in_ok-x.ensures

pub combine-loop-operand-preserved : goal.operations::combine-loop-operand-preserved
combine-loop-operand-preserved t c =
    ap (λ k. combined (caller c.args.here.setup.now c.args.here.fuel) c.args.operator
    (operands_of (drop (c.loop-operand.operand-index + 1) c.args.rest.now)) k (context_of c.args.here.context.now)
    (world_of c.evaluate_truth-in-loop-operand.new.world)) c.combine_truths-x.ensures
    ∙ chain.operands_next c.args.here.setup.now c.args.here.fuel
    (context_of c.args.here.context.now) c.args.operator c.args.rest.now c.loop-operand.operand-index
    c.operand-item.result c.loop-operand.x _ (world_of c.loop-operand.world)
    (world_of c.evaluate_truth-in-loop-operand.new.world) _ c.loop-operand.invariant c.in_ok-y.ensures
    c.operand-item.is c.loop-operand-test.true

pub combine-returns : goal.operations::combine-returns
combine-returns t c =
    chain.operands_end (caller c.args.here.setup.now c.args.here.fuel)
    (context_of c.args.here.context.now) c.args.operator c.args.rest.now c.loop-operand.operand-index
    c.loop-operand.x (world_of c.loop-operand.world) _ c.loop-operand.invariant (omega arith)
    ∙ ap (λ k. m.Gives k (world_of c.loop-operand.world)) (sym c.truth.ensures)

pub compare-returns-in_err-x : goal.operations::compare-returns-in_err-x
compare-returns-in_err-x t c = handed_on _ _ _ _ _ _ _ c.from_residual.ensures.1
    (halted_left c.args.here.setup.now c.args.here.fuel _ _ _ _ _ _ _ c.in_err-x.ensures)

pub compare-returns-in_err-y : goal.operations::compare-returns-in_err-y
compare-returns-in_err-y t c = a.then_ran _ _ _ _ _ _ _ _ _ c.in_ok-x.ensures
    (handed_on _ _ _ _ _ _ _ c.from_residual-in_err-y.ensures.1
    (halted_right c.args.here.setup.now c.args.here.fuel _ _ _ _ _ _ _ c.in_err-y.ensures))

pub compare_sets-returns-in_err-x : goal.operations::compare_sets-returns-in_err-x
compare_sets-returns-in_err-x t c = handed_on _ _ _ _ _ _ _ c.from_residual.ensures.1
    (halted_left c.args.here.setup.now c.args.here.fuel _ _ _ _ _ _ _ c.in_err-x.ensures)

pub compare_sets-returns-in_err-y : goal.operations::compare_sets-returns-in_err-y
compare_sets-returns-in_err-y t c = a.then_ran _ _ _ _ _ _ _ _ _ c.in_ok-x.ensures
    (handed_on _ _ _ _ _ _ _ c.from_residual-in_err-y.ensures.1
    (halted_right c.args.here.setup.now c.args.here.fuel _ _ _ _ _ _ _ c.in_err-y.ensures))

pub compare_strings-returns-in_err-x : goal.operations::compare_strings-returns-in_err-x
compare_strings-returns-in_err-x t c = handed_on _ _ _ _ _ _ _ c.from_residual.ensures.1
    (halted_left c.args.here.setup.now c.args.here.fuel _ _ _ _ _ _ _ c.in_err-x.ensures)

pub compare_strings-returns-in_err-y : goal.operations::compare_strings-returns-in_err-y
compare_strings-returns-in_err-y t c = a.then_ran _ _ _ _ _ _ _ _ _ c.in_ok-x.ensures
    (handed_on _ _ _ _ _ _ _ c.from_residual-in_err-y.ensures.1
    (halted_right c.args.here.setup.now c.args.here.fuel _ _ _ _ _ _ _ c.in_err-y.ensures))

pub compare_strings-returns : goal.operations::compare_strings-returns
compare_strings-returns t c = a.then_ran _ _ _ _ _ _ _ _ _ c.in_ok-x.ensures
    (a.then_runs _ _ _ _ _ _ _ _ _ c.in_ok-y.ensures c.strings_compared.ensures)

pub test_member-returns-in_err-evaluate : goal.operations::test_member-returns-in_err-evaluate
test_member-returns-in_err-evaluate t c = handed_on _ _ _ _ _ _ _ c.from_residual.ensures.1
    (halted_left c.args.here.setup.now c.args.here.fuel _ _ _ _ _ _ _ c.in_err-evaluate.ensures)

pub test_member-returns-in_err-s : goal.operations::test_member-returns-in_err-s
test_member-returns-in_err-s t c = a.then_ran _ _ _ _ _ _ _ _ _ c.in_ok-evaluate.ensures
    (handed_on _ _ _ _ _ _ _ c.from_residual-in_err-s.ensures.1
    (halted_right c.args.here.setup.now c.args.here.fuel _ _ _ _ _ _ _ c.in_err-s.ensures))
