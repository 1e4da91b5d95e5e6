-- The answers of calls and of actual parameters.

use Rattle.std.proofs.Common.{◌≡◌, ◌-◌, ◌∙◌, map, true, false, arith}
use Rattle.ps_tree.specs.View.{structure_of, arguments_of, statements_of, argument_of}
use Rattle.ps_meaning.specs.Expressions.{operand, actuals_of, calling}
use Rattle.ps_meaning.specs.Statements.{Block}
use Rattle.ps_meaning_runner.specs.Heights.{structure_height, statements_height, arguments_height}
use Rattle.ps_meaning_runner.specs.Runs.{Halted, levels}
use Rattle.ps_meaning_runner.proofs.Heights.{block_levels}
use Rattle.ps_meaning_runner.proofs.Acts as a
use Rattle.ps_meaning_runner.proofs.Called as of_calls
use Rattle.ps_meaning_runner.proofs.Repetitions as repeating
use Rattle.ps_meaning_runner.proofs.Chains as chain
use Rattle.ps_meaning_runner.specs.Worlds.{Stopped, caller, next, context_of, world_of, actual_of, actuals_in}
use Rattle.ps_meaning_runner.specs.Worlds.{callee_env, callee_routine, called, called_value, done_of}
use Rattle.ps_meaning_runner.proofs.Answers.{handed_on, halted_alone, actuals_halt, halted_then, answers_run}
use Rattle.ps_tree.proofs.TreeLemmas.{argument_of_Variable}
use Rattle.ps_meaning_runner.proofs.+run.Goals as goal

pub take_actuals-returns-in_err-actual : goal.expressions::take_actuals-returns-in_err-actual
take_actuals-returns-in_err-actual t c =
    let h : Halted (actuals_of (caller c.args.here.setup.now c.args.here.fuel) (arguments_of c.args.arguments.now)
    (context_of c.args.here.context.now) (world_of c.args.world.now)) c.args.here.depth
    (levels c.args.here.setup.now c.args.here.fuel (arguments_height (arguments_of c.args.arguments.now)))
    c.in_err-actual.field-0.0 c.take_actual.new.world = actuals_halt c.args.here.setup.now c.args.here.fuel
    (context_of c.args.here.context.now) c.args.arguments.now c.loop-argument.argument-index
    (map actual_of c.loop-argument.actuals.items) c.argument-item.result _
    (world_of c.loop-argument.world) c.take_actual.new.world _ c.args.here.depth c.loop-argument.invariant
    c.in_err-actual.ensures c.argument-item.is c.loop-argument-test.true in
    handed_on _ _ _ _ _ _ _ c.from_residual.ensures.1 h

pub call_procedure-returns-in_err-body : goal.calls::call_procedure-returns-in_err-body
call_procedure-returns-in_err-body t c =
    let stopped : Stopped (caller c.args.here.setup.now c.args.here.fuel
    (callee_routine c.args.callee (context_of c.args.here.context.now))
    (callee_env c.args.callee (context_of c.args.here.context.now)) (map actual_of c.in_ok-actuals.actuals.items)
    (calling c.args.line (context_of c.args.here.context.now)) (world_of c.take_actuals.new.world))
    c.in_err-body.field-0.0 c.enter.new.self = c.in_err-body.ensures.stopped c.args.here.fuel in
    let h : Halted (called c.args.here.setup.now c.args.here.fuel c.args.callee
    (arguments_of c.args.arguments.now) c.args.line (context_of c.args.here.context.now)
    (world_of c.args.world.now)) c.args.here.depth
    (levels c.args.here.setup.now c.args.here.fuel (arguments_height (arguments_of c.args.arguments.now)))
    c.in_err-body.field-0.0 c.enter.new.self = of_calls.called_stops c.args.here.setup.now c.args.here.fuel
    c.args.callee (arguments_of c.args.arguments.now) c.args.line (context_of c.args.here.context.now)
    (actuals_in c.in_ok-actuals.actuals) (world_of c.args.world.now)
    (world_of c.take_actuals.new.world) _ c.enter.new.self c.args.here.depth _ c.in_ok-actuals.ensures stopped in
    handed_on _ _ _ _ _ _ _ c.from_residual-in_err-body.ensures.1 h

pub call_procedure-returns : goal.calls::call_procedure-returns
call_procedure-returns t c =
    let same : caller c.args.here.setup.now c.args.here.fuel
    (callee_routine c.args.callee (context_of c.args.here.context.now))
    (callee_env c.args.callee (context_of c.args.here.context.now)) (map actual_of c.in_ok-actuals.actuals.items)
    (calling c.args.line (context_of c.args.here.context.now)) (world_of c.take_actuals.new.world)
    ≡ next c.args.here.setup.now c.args.here.fuel (Block (statements_of c.in_ok-body.body.now))
    (context_of c.in_ok-body.inner) (world_of c.enter.new.self) = c.in_ok-body.ensures.entered c.args.here.fuel in
    of_calls.called_runs c.args.here.setup.now c.args.here.fuel c.args.callee
    (arguments_of c.args.arguments.now) c.args.line
    (context_of c.args.here.context.now) (actuals_in c.in_ok-actuals.actuals) (world_of c.args.world.now)
    (world_of c.take_actuals.new.world) _ c.do_block.result c.do_block.new.world c.args.here.depth
    c.in_ok-actuals.ensures same c.do_block.ensures

pub call_value-returns-in_err-body : goal.calls::call_value-returns-in_err-body
call_value-returns-in_err-body t c =
    let stopped : Stopped (caller c.args.here.setup.now c.args.here.fuel
    (callee_routine c.args.callee (context_of c.args.here.context.now))
    (callee_env c.args.callee (context_of c.args.here.context.now)) (map actual_of c.in_ok-actuals.actuals.items)
    (calling c.args.line (context_of c.args.here.context.now)) (world_of c.take_actuals.new.world))
    c.in_err-body.field-0.0 c.enter.new.self = c.in_err-body.ensures.stopped c.args.here.fuel in
    let h : Halted (called_value c.args.here.setup.now c.args.here.fuel c.args.callee
    (arguments_of c.args.arguments.now) c.args.line (context_of c.args.here.context.now)
    (world_of c.args.world.now)) c.args.here.depth
    (levels c.args.here.setup.now c.args.here.fuel (arguments_height (arguments_of c.args.arguments.now)))
    c.in_err-body.field-0.0 c.enter.new.self = of_calls.valued_stops c.args.here.setup.now c.args.here.fuel
    c.args.callee (arguments_of c.args.arguments.now) c.args.line (context_of c.args.here.context.now)
    (actuals_in c.in_ok-actuals.actuals) (world_of c.args.world.now)
    (world_of c.take_actuals.new.world) _ c.enter.new.self c.args.here.depth _ c.in_ok-actuals.ensures stopped in
    handed_on _ _ _ _ _ _ _ c.from_residual-in_err-body.ensures.1 h

pub call_value-returns-in_err-do_block : goal.calls::call_value-returns-in_err-do_block
call_value-returns-in_err-do_block t c =
    let same : caller c.args.here.setup.now c.args.here.fuel
    (callee_routine c.args.callee (context_of c.args.here.context.now))
    (callee_env c.args.callee (context_of c.args.here.context.now)) (map actual_of c.in_ok-actuals.actuals.items)
    (calling c.args.line (context_of c.args.here.context.now)) (world_of c.take_actuals.new.world)
    ≡ next c.args.here.setup.now c.args.here.fuel (Block (statements_of c.in_ok-body.body.now))
    (context_of c.in_ok-body.inner) (world_of c.enter.new.self) = c.in_ok-body.ensures.entered c.args.here.fuel in
    let h : Halted (called_value c.args.here.setup.now c.args.here.fuel c.args.callee
    (arguments_of c.args.arguments.now) c.args.line (context_of c.args.here.context.now)
    (world_of c.args.world.now)) c.args.here.depth
    (levels c.args.here.setup.now c.args.here.fuel (arguments_height (arguments_of c.args.arguments.now)))
    c.in_err-do_block.field-0.0 c.do_block.new.world = of_calls.valued_halts c.args.here.setup.now c.args.here.fuel
    c.args.callee (arguments_of c.args.arguments.now) c.args.line (context_of c.args.here.context.now)
    (actuals_in c.in_ok-actuals.actuals) (world_of c.args.world.now)
    (world_of c.take_actuals.new.world) _ _ c.do_block.new.world c.args.here.depth c.in_ok-actuals.ensures same
    c.in_err-do_block.ensures in
    handed_on _ _ _ _ _ _ _ c.from_residual-in_err-do_block.ensures.1 h

pub call_value-returns : goal.calls::call_value-returns
call_value-returns t c =
    let same : caller c.args.here.setup.now c.args.here.fuel
    (callee_routine c.args.callee (context_of c.args.here.context.now))
    (callee_env c.args.callee (context_of c.args.here.context.now)) (map actual_of c.in_ok-actuals.actuals.items)
    (calling c.args.line (context_of c.args.here.context.now)) (world_of c.take_actuals.new.world)
    ≡ next c.args.here.setup.now c.args.here.fuel (Block (statements_of c.in_ok-body.body.now))
    (context_of c.in_ok-body.inner) (world_of c.enter.new.self) = c.in_ok-body.ensures.entered c.args.here.fuel in
    of_calls.valued_runs c.args.here.setup.now c.args.here.fuel c.args.callee
    (arguments_of c.args.arguments.now) c.args.line
    (context_of c.args.here.context.now) (actuals_in c.in_ok-actuals.actuals) (world_of c.args.world.now)
    (world_of c.take_actuals.new.world) (world_of c.do_block.new.world) c.result_at.result c.do_block.new.world
    c.args.here.depth _ c.in_ok-actuals.ensures (same ∙ c.in_ok-do_block.ensures) c.result_at.ensures

pub do_block-returns-then-here-eq0 : goal.calls::do_block-returns-then-here-eq0
do_block-returns-then-here-eq0 t c =
    a.halts_same _ _ c.used_up.result c.args.world.now _ _
    (repeating.block_over c.args.here.setup.now c.args.here.fuel (statements_of c.args.body.now)
    (context_of c.args.here.context.now) (world_of c.args.world.now) c.if-here-eq0.true) c.used_up.ensures

pub do_block-returns-else-here-eq0 : goal.calls::do_block-returns-else-here-eq0
do_block-returns-else-here-eq0 t c =
    a.runs_same done_of _ _ c.act_all.result c.act_all.new.world c.args.here.depth
    (levels c.args.here.setup.now (c.args.here.fuel - 1) (statements_height (statements_of c.args.body.now)))
    (levels c.args.here.setup.now c.args.here.fuel 0)
    (repeating.block_done c.args.here.setup.now c.args.here.fuel (statements_of c.args.body.now)
    (context_of c.args.here.context.now) (world_of c.args.world.now) c.if-here-eq0.false)
    (block_levels c.args.here.setup.now c.args.here.fuel
    (statements_height (statements_of c.args.body.now)) c.if-here-eq0.false c.requires) c.act_all.ensures

pub take_operand-returns-in_err-access-in-Contents : goal.expressions::take_operand-returns-in_err-access-in-Contents
take_operand-returns-in_err-access-in-Contents t c =
    let h : Halted (operand (caller c.args.here.setup.now c.args.here.fuel) (structure_of c.args.operand.now)
    (context_of c.args.here.context.now) (world_of c.args.world.now)) c.args.here.depth
    (levels c.args.here.setup.now c.args.here.fuel (structure_height (structure_of c.args.operand.now)))
    c.in_err-access-in-Contents.field-0.0 c.access.new.world = chain.contents_halt c.args.here.setup.now
    c.args.here.fuel (context_of c.args.here.context.now)
    (world_of c.args.world.now) c.args.operand.now _ _ _ _ c.access.new.world c.args.here.depth c.in-Contents.is
    c.deref.ensures c.in_err-access-in-Contents.ensures in
    handed_on _ _ _ _ _ _ _ c.from_residual.ensures.1 h

pub take_operand-returns-in_ok-access-in-Contents : goal.expressions::take_operand-returns-in_ok-access-in-Contents
take_operand-returns-in_ok-access-in-Contents t c =
    chain.contents_gives c.args.here.setup.now c.args.here.fuel (context_of c.args.here.context.now)
    (world_of c.args.world.now) (world_of c.access.new.world) c.args.operand.now _ _ _
    c.in_ok-access-in-Contents.field-0
    c.in-Contents.is c.deref.ensures c.in_ok-access-in-Contents.ensures

pub call_procedure-returns-in_err-actuals : goal.calls::call_procedure-returns-in_err-actuals
call_procedure-returns-in_err-actuals t c = handed_on _ _ _ _ _ _ _ c.from_residual.ensures.1
    (halted_alone c.args.here.setup.now c.args.here.fuel _ _ _ _ _ _ c.in_err-actuals.ensures)

pub call_value-returns-in_err-actuals : goal.calls::call_value-returns-in_err-actuals
call_value-returns-in_err-actuals t c = handed_on _ _ _ _ _ _ _ c.from_residual.ensures.1
    (halted_alone c.args.here.setup.now c.args.here.fuel _ _ _ _ _ _ c.in_err-actuals.ensures)

pub take_actual-returns-in-Formal : goal.expressions::take_actual-returns-in-Formal
unfolding argument_of actual_of
take_actual-returns-in-Formal t c = grind (arith, answers_run)

pub take_actual-returns-in-Routine : goal.expressions::take_actual-returns-in-Routine
unfolding argument_of actual_of
take_actual-returns-in-Routine t c = grind (arith, answers_run)

pub take_actual-returns-in_err-access-in-Variable : goal.expressions::take_actual-returns-in_err-access-in-Variable
unfolding argument_of actual_of
take_actual-returns-in_err-access-in-Variable t c = grind (arith, halted_then, argument_of_Variable)

pub take_actual-returns-in_ok-access-in-Variable : goal.expressions::take_actual-returns-in_ok-access-in-Variable
unfolding argument_of actual_of
take_actual-returns-in_ok-access-in-Variable t c = grind (arith, argument_of_Variable)

pub take_actual-returns-in_ok-held-in-Copy : goal.expressions::take_actual-returns-in_ok-held-in-Copy
unfolding argument_of actual_of
take_actual-returns-in_ok-held-in-Copy t c = grind (arith, answers_run)

pub take_actual-returns-in_ok-x-in-Value : goal.expressions::take_actual-returns-in_ok-x-in-Value
unfolding argument_of actual_of
take_actual-returns-in_ok-x-in-Value t c = grind (arith, answers_run)

pub take_actual-returns-in_ok-s-in-Set : goal.expressions::take_actual-returns-in_ok-s-in-Set
unfolding argument_of actual_of
take_actual-returns-in_ok-s-in-Set t c = grind (arith, answers_run)

pub take_actual-returns-in_err-held-in-Copy : goal.expressions::take_actual-returns-in_err-held-in-Copy
unfolding argument_of actual_of
take_actual-returns-in_err-held-in-Copy t c = grind (arith, halted_then)

pub take_actual-returns-in_err-s-in-Set : goal.expressions::take_actual-returns-in_err-s-in-Set
unfolding argument_of actual_of
take_actual-returns-in_err-s-in-Set t c = grind (arith, halted_then)

pub take_actual-returns-in_err-x-in-Value : goal.expressions::take_actual-returns-in_err-x-in-Value
unfolding argument_of actual_of
take_actual-returns-in_err-x-in-Value t c = grind (arith, halted_then)
