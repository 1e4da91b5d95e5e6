-- The answers of what is read and written.

use Rattle.std.proofs.Common.{map, true, arith}
use Rattle.ps_tree.specs.View.{read_of, write_of, width_of}
use Rattle.ps_meaning_runner.specs.Heights.{reads_height, writes_height}
use Rattle.ps_meaning_runner.specs.Runs.{Halted, levels}
use Rattle.ps_meaning_runner.proofs.Acts as a
use Rattle.ps_meaning_runner.specs.View.{spot_of}
use Rattle.ps_meaning_runner.specs.Worlds.{context_of, world_of, reading_all, writing_all}
use Rattle.ps_meaning_runner.proofs.Answers.{handed_on, halted_left, halted_right, halted_then, answers_run}
use Rattle.ps_meaning_runner.proofs.Answers.{runs_deeper}
use Rattle.ps_meaning_runner.proofs.+run.Goals as goal

pub read_all-returns-in_err-spot : goal.transfers::read_all-returns-in_err-spot
read_all-returns-in_err-spot t c =
    let h : Halted (reading_all c.args.here.setup.now c.args.here.fuel (map read_of c.args.variables.now)
    (context_of c.args.here.context.now) (world_of c.args.world.now)) c.args.here.depth
    (levels c.args.here.setup.now c.args.here.fuel (reads_height (map read_of c.args.variables.now)))
    c.in_err-spot.field-0.0 c.access.new.world = a.reads_halt_at c.args.here.setup.now c.args.here.fuel
    (context_of c.args.here.context.now) c.args.variables.now c.loop-variable.variable-index c.variable-item.result
    _ _ (world_of c.loop-variable.world) c.access.new.world _ c.args.here.depth c.loop-variable.invariant
    c.place_read.ensures c.in_err-spot.ensures c.variable-item.is c.loop-variable-test.true in
    handed_on _ _ _ _ _ _ _ c.from_residual.ensures.1 h

pub read_all-returns-in_err-read_into : goal.transfers::read_all-returns-in_err-read_into
read_all-returns-in_err-read_into t c =
    let h : Halted (reading_all c.args.here.setup.now c.args.here.fuel (map read_of c.args.variables.now)
    (context_of c.args.here.context.now) (world_of c.args.world.now)) c.args.here.depth
    (levels c.args.here.setup.now c.args.here.fuel (reads_height (map read_of c.args.variables.now)))
    c.in_err-read_into.field-0.0 c.read_into.new.self = a.reads_halt_into c.args.here.setup.now c.args.here.fuel
    (context_of c.args.here.context.now) c.args.variables.now c.loop-variable.variable-index c.variable-item.result
    _ (spot_of c.in_ok-spot.spot) _ (world_of c.loop-variable.world)
    (world_of c.access.new.world) c.read_into.new.self _ c.args.here.depth c.loop-variable.invariant
    c.place_read.ensures c.in_ok-spot.ensures c.in_err-read_into.ensures c.variable-item.is
    c.loop-variable-test.true in
    handed_on _ _ _ _ _ _ _ c.from_residual-in_err-read_into.ensures.1 h

pub read_all-returns : goal.transfers::read_all-returns
read_all-returns t c = a.reads_end c.args.here.setup.now c.args.here.fuel
    (context_of c.args.here.context.now) c.args.variables.now c.loop-variable.variable-index
    (world_of c.loop-variable.world) _ c.loop-variable.invariant (omega arith)

pub read_all-loop-variable-preserved : goal.transfers::read_all-loop-variable-preserved
read_all-loop-variable-preserved t c = a.reads_next c.args.here.setup.now c.args.here.fuel
    (context_of c.args.here.context.now) c.args.variables.now c.loop-variable.variable-index c.variable-item.result
    (world_of c.loop-variable.world) (world_of c.read_into.new.self) _ c.loop-variable.invariant
    (a.read_done c.args.here.setup.now c.args.here.fuel (context_of c.args.here.context.now)
    (read_of c.variable-item.result) _ (spot_of c.in_ok-spot.spot) (world_of c.loop-variable.world)
    (world_of c.access.new.world) (world_of c.read_into.new.self) c.place_read.ensures c.in_ok-spot.ensures
    c.in_ok-read_into.ensures) c.variable-item.is c.loop-variable-test.true

pub write_all-returns-in_err-write_one : goal.transfers::write_all-returns-in_err-write_one
write_all-returns-in_err-write_one t c =
    let h : Halted (writing_all c.args.here.setup.now c.args.here.fuel (map write_of c.args.parameters.now)
    (context_of c.args.here.context.now) (world_of c.args.world.now)) c.args.here.depth
    (levels c.args.here.setup.now c.args.here.fuel (writes_height (map write_of c.args.parameters.now)))
    c.in_err-write_one.field-0.0 c.write_one.new.world = a.writes_halt c.args.here.setup.now c.args.here.fuel
    (context_of c.args.here.context.now) c.args.parameters.now c.loop-parameter.parameter-index
    c.parameter-item.result _ (world_of c.loop-parameter.world) c.write_one.new.world _ c.args.here.depth
    c.loop-parameter.invariant c.in_err-write_one.ensures c.parameter-item.is c.loop-parameter-test.true in
    handed_on _ _ _ _ _ _ _ c.from_residual.ensures.1 h

pub write_all-returns : goal.transfers::write_all-returns
write_all-returns t c = a.writes_end c.args.here.setup.now c.args.here.fuel
    (context_of c.args.here.context.now) c.args.parameters.now c.loop-parameter.parameter-index
    (world_of c.loop-parameter.world) _ c.loop-parameter.invariant (omega arith)

pub write_all-loop-parameter-preserved : goal.transfers::write_all-loop-parameter-preserved
write_all-loop-parameter-preserved t c = a.writes_next c.args.here.setup.now c.args.here.fuel
    (context_of c.args.here.context.now) c.args.parameters.now c.loop-parameter.parameter-index c.parameter-item.result
    (world_of c.loop-parameter.world) (world_of c.write_one.new.world) _ c.loop-parameter.invariant
    c.in_ok-write_one.ensures c.parameter-item.is c.loop-parameter-test.true

pub evaluate_width-returns-in_err-evaluate-in-Given : goal.transfers::evaluate_width-returns-in_err-evaluate-in-Given
unfolding width_of
evaluate_width-returns-in_err-evaluate-in-Given t c = grind (arith, halted_then)

pub evaluate_width-returns-in_ok-evaluate-in-Given : goal.transfers::evaluate_width-returns-in_ok-evaluate-in-Given
unfolding width_of
evaluate_width-returns-in_ok-evaluate-in-Given t c = grind (arith, answers_run)

pub write_contents-returns-in_err-held : goal.transfers::write_contents-returns-in_err-held
write_contents-returns-in_err-held t c = handed_on _ _ _ _ _ _ _ c.from_residual.ensures.1
    (halted_left c.args.here.setup.now c.args.here.fuel _ _ _ _ _ _ _ c.in_err-held.ensures)

pub write_contents-returns-in_err-n : goal.transfers::write_contents-returns-in_err-n
write_contents-returns-in_err-n t c = a.then_ran _ _ _ _ _ _ _ _ _ c.in_ok-held.ensures
    (handed_on _ _ _ _ _ _ _ c.from_residual-in_err-n.ensures.1
    (halted_right c.args.here.setup.now c.args.here.fuel _ _ _ _ _ _ _ c.in_err-n.ensures))

pub write_evaluated-returns-in_err-x : goal.transfers::write_evaluated-returns-in_err-x
write_evaluated-returns-in_err-x t c = handed_on _ _ _ _ _ _ _ c.from_residual.ensures.1
    (halted_left c.args.here.setup.now c.args.here.fuel _ _ _ _ _ _ _ c.in_err-x.ensures)

pub write_evaluated-returns-in_err-n : goal.transfers::write_evaluated-returns-in_err-n
write_evaluated-returns-in_err-n t c = a.then_ran _ _ _ _ _ _ _ _ _ c.in_ok-x.ensures
    (handed_on _ _ _ _ _ _ _ c.from_residual-in_err-n.ensures.1
    (halted_right c.args.here.setup.now c.args.here.fuel _ _ _ _ _ _ _ c.in_err-n.ensures))

pub write_evaluated-returns : goal.transfers::write_evaluated-returns
write_evaluated-returns t c = a.then_ran _ _ _ _ _ _ _ _ _ c.in_ok-x.ensures
    (a.then_runs _ _ _ _ _ _ _ _ _ c.in_ok-n.ensures c.write_value.ensures)

pub write_one-returns-in-Integer : goal.transfers::write_one-returns-in-Integer
unfolding write_of
write_one-returns-in-Integer t c = grind (arith, runs_deeper)

pub write_one-returns-in-Char : goal.transfers::write_one-returns-in-Char
unfolding write_of
write_one-returns-in-Char t c = grind (arith, runs_deeper)

pub write_one-returns-in-Boolean : goal.transfers::write_one-returns-in-Boolean
unfolding write_of
write_one-returns-in-Boolean t c = grind (arith, runs_deeper)

pub write_one-returns-in-Text : goal.transfers::write_one-returns-in-Text
unfolding write_of
write_one-returns-in-Text t c = grind (arith, runs_deeper)
