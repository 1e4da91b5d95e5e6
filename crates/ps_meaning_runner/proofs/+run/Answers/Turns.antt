-- The answers of loops.

use Rattle.std.proofs.Common.{◌≡◌, ◌≤◌, max, ◌∙◌, refl, sym, true, false, rules, arith}
use Rattle.std.proofs.Math.Facts.{to_z-of_z}
use Rattle.ps_tree.specs.Tree as Tree
use Rattle.ps_tree.specs.View.{expr_of, statements_of, statement_of}
use Rattle.ps_meaning.specs.Values.{number_of}
use Rattle.ps_meaning_runner.specs.Heights.{expr_height, statement_height, statements_height}
use Rattle.ps_meaning_runner.specs.Runs.{Halted, levels}
use Rattle.ps_meaning_runner.proofs.Acts as a
use Rattle.ps_meaning_runner.proofs.Repetitions as repeating
use Rattle.ps_meaning_runner.proofs.Turns as counted
use Rattle.ps_meaning_runner.specs.View.{value_of}
use Rattle.ps_meaning_runner.specs.Worlds.{context_of, world_of, acting, turning}
use Rattle.ps_meaning_runner.proofs.Answers.{handed_on}
use Rattle.ps_meaning_runner.proofs.+run.Goals as goal

pub count-returns-in_err-x : goal.loops::count-returns-in_err-x
count-returns-in_err-x t c =
    let h : Halted (acting c.args.here.setup.now c.args.here.fuel (Tree.For c.args.control.variable c.args.low
    c.args.high (expr_of c.args.bounds.from.now) c.args.bounds.from_line c.args.control.direction
    (expr_of c.args.bounds.to.now) c.args.bounds.to_line (statement_of c.args.body.now))
    (context_of c.args.here.context.now) (world_of c.args.world.now)) c.args.here.depth (levels c.args.here.setup.now
    c.args.here.fuel (max (expr_height (expr_of c.args.bounds.from.now)) (max
    (expr_height (expr_of c.args.bounds.to.now)) (statement_height (statement_of c.args.body.now)))))
    c.in_err-x.field-0.0 c.evaluate.new.world = counted.for_halt c.args.here.setup.now c.args.here.fuel
    c.args.control.variable c.args.low c.args.high (expr_of c.args.bounds.from.now) c.args.bounds.from_line
    c.args.control.direction (expr_of c.args.bounds.to.now) c.args.bounds.to_line (statement_of c.args.body.now)
    (context_of c.args.here.context.now) _ (world_of c.args.world.now) c.evaluate.new.world c.args.here.depth
    c.in_err-x.ensures in
    handed_on _ _ _ _ _ _ _ c.from_residual.ensures.1 h

pub count-returns-in_err-y : goal.loops::count-returns-in_err-y
count-returns-in_err-y t c =
    let h : Halted (acting c.args.here.setup.now c.args.here.fuel (Tree.For c.args.control.variable c.args.low
    c.args.high (expr_of c.args.bounds.from.now) c.args.bounds.from_line c.args.control.direction
    (expr_of c.args.bounds.to.now) c.args.bounds.to_line (statement_of c.args.body.now))
    (context_of c.args.here.context.now) (world_of c.args.world.now)) c.args.here.depth (levels c.args.here.setup.now
    c.args.here.fuel (max (expr_height (expr_of c.args.bounds.from.now)) (max
    (expr_height (expr_of c.args.bounds.to.now)) (statement_height (statement_of c.args.body.now)))))
    c.in_err-y.field-0.0 c.evaluate-2.new.world = counted.for_halt_second c.args.here.setup.now c.args.here.fuel
    c.args.control.variable c.args.low c.args.high (expr_of c.args.bounds.from.now) c.args.bounds.from_line
    c.args.control.direction (expr_of c.args.bounds.to.now) c.args.bounds.to_line (statement_of c.args.body.now)
    (context_of c.args.here.context.now) (value_of c.in_ok-x.x) _ (world_of c.args.world.now)
    (world_of c.evaluate.new.world) c.evaluate-2.new.world c.args.here.depth c.in_ok-x.ensures c.in_err-y.ensures in
    handed_on _ _ _ _ _ _ _ c.from_residual-in_err-y.ensures.1 h

pub count-returns-then-is_past : goal.loops::count-returns-then-is_past
count-returns-then-is_past t c = counted.for_past c.args.here.setup.now c.args.here.fuel c.args.control.variable
    c.args.low c.args.high (expr_of c.args.bounds.from.now) c.args.bounds.from_line c.args.control.direction
    (expr_of c.args.bounds.to.now) c.args.bounds.to_line (statement_of c.args.body.now)
    (context_of c.args.here.context.now) (value_of c.in_ok-x.x) (value_of c.in_ok-y.y) (world_of c.args.world.now)
    (world_of c.evaluate.new.world) (world_of c.evaluate-2.new.world) c.in_ok-x.ensures c.in_ok-y.ensures
    (sym c.is_past.ensures ∙ c.if-is_past.true)

pub count-returns-in_err-begin_turns : goal.loops::count-returns-in_err-begin_turns
count-returns-in_err-begin_turns t c =
    let h : Halted (acting c.args.here.setup.now c.args.here.fuel (Tree.For c.args.control.variable c.args.low
    c.args.high (expr_of c.args.bounds.from.now) c.args.bounds.from_line c.args.control.direction
    (expr_of c.args.bounds.to.now) c.args.bounds.to_line (statement_of c.args.body.now))
    (context_of c.args.here.context.now) (world_of c.args.world.now)) c.args.here.depth (levels c.args.here.setup.now
    c.args.here.fuel (max (expr_height (expr_of c.args.bounds.from.now)) (max
    (expr_height (expr_of c.args.bounds.to.now)) (statement_height (statement_of c.args.body.now)))))
    c.in_err-begin_turns.field-0.0 c.begin_turns.new.world = counted.for_stops c.args.here.setup.now c.args.here.fuel
    c.args.control.variable c.args.low c.args.high (expr_of c.args.bounds.from.now) c.args.bounds.from_line
    c.args.control.direction (expr_of c.args.bounds.to.now) c.args.bounds.to_line (statement_of c.args.body.now)
    (context_of c.args.here.context.now) (value_of c.in_ok-x.x) (value_of c.in_ok-y.y) (world_of c.args.world.now)
    (world_of c.evaluate.new.world) (world_of c.evaluate-2.new.world) _ c.begin_turns.new.world c.args.here.depth _
    c.in_ok-x.ensures c.in_ok-y.ensures (sym c.is_past.ensures ∙ c.if-is_past.false) _ (counted.within_is c.args.low
    c.args.high _ _ (to_z-of_z c.ranges.low) (to_z-of_z c.ranges.high)) c.in_err-begin_turns.ensures in
    handed_on _ _ _ _ _ _ _ c.from_residual-in_err-begin_turns.ensures.1 h

pub count-returns : goal.loops::count-returns
count-returns t c = counted.for_runs c.args.here.setup.now c.args.here.fuel c.args.control.variable c.args.low
    c.args.high (expr_of c.args.bounds.from.now) c.args.bounds.from_line c.args.control.direction
    (expr_of c.args.bounds.to.now) c.args.bounds.to_line (statement_of c.args.body.now)
    (context_of c.args.here.context.now) (value_of c.in_ok-x.x) (value_of c.in_ok-y.y) (world_of c.args.world.now)
    (world_of c.evaluate.new.world) (world_of c.evaluate-2.new.world) (world_of c.begin_turns.new.world)
    c.turns.result c.turns.new.world c.args.here.depth c.in_ok-x.ensures c.in_ok-y.ensures
    (sym c.is_past.ensures ∙ c.if-is_past.false) _ (counted.within_is c.args.low c.args.high _ _
    (to_z-of_z c.ranges.low) (to_z-of_z c.ranges.high)) c.in_ok-begin_turns.ensures c.turns.ensures

pub repeat_while-returns-in_err-evaluate_truth : goal.loops::repeat_while-returns-in_err-evaluate_truth
repeat_while-returns-in_err-evaluate_truth t c =
    let h : Halted (acting c.args.here.setup.now c.args.here.fuel
    (Tree.While (expr_of c.args.condition.now) (statement_of c.args.body.now)) (context_of c.args.here.context.now)
    (world_of c.args.world.now)) c.args.here.depth
    (levels c.args.here.setup.now c.args.here.fuel
    (max (expr_height (expr_of c.args.condition.now)) (statement_height (statement_of c.args.body.now))))
    c.in_err-evaluate_truth.field-0.0 c.evaluate_truth.new.world = repeating.while_halt c.args.here.setup.now
    c.loop-world.left c.args.here.fuel (expr_of c.args.condition.now) (statement_of c.args.body.now)
    (context_of c.args.here.context.now) _ (world_of c.loop-world.world) c.evaluate_truth.new.world _
    c.args.here.depth c.loop-world.invariant.left c.loop-world.invariant.same c.in_err-evaluate_truth.ensures in
    handed_on _ _ _ _ _ _ _ c.from_residual.ensures.1 h

pub repeat_while-returns-in_err-act : goal.loops::repeat_while-returns-in_err-act
repeat_while-returns-in_err-act t c =
    let k : c.in_ok-evaluate_truth.field-0 ≡ true = search (rules, c.if-not-branch.false) in
    let h : Halted (acting c.args.here.setup.now c.args.here.fuel
    (Tree.While (expr_of c.args.condition.now) (statement_of c.args.body.now)) (context_of c.args.here.context.now)
    (world_of c.args.world.now)) c.args.here.depth
    (levels c.args.here.setup.now c.args.here.fuel
    (max (expr_height (expr_of c.args.condition.now)) (statement_height (statement_of c.args.body.now))))
    c.in_err-act.field-0.0 c.act.new.world = repeating.while_body_halt c.args.here.setup.now c.loop-world.left
    c.args.here.fuel (expr_of c.args.condition.now) (statement_of c.args.body.now)
    (context_of c.args.here.context.now) c.in_ok-evaluate_truth.field-0 _ (world_of c.loop-world.world)
    (world_of c.evaluate_truth.new.world) c.act.new.world _ c.args.here.depth c.loop-world.invariant.left
    c.loop-world.invariant.same c.in_ok-evaluate_truth.ensures k c.in_err-act.ensures in
    handed_on _ _ _ _ _ _ _ c.from_residual-in_err-act.ensures.1 h

pub repeat_while-returns-then-left-eq0 : goal.loops::repeat_while-returns-then-left-eq0
repeat_while-returns-then-left-eq0 t c =
    let k : c.in_ok-evaluate_truth.field-0 ≡ true = search (rules, c.if-not-branch.false) in
    a.halts_same _ _ c.used_up.result c.act.new.world _ _
    (repeating.while_over c.args.here.setup.now c.loop-world.left (expr_of c.args.condition.now)
    (statement_of c.args.body.now) (context_of c.args.here.context.now) c.in_ok-evaluate_truth.field-0
    (world_of c.loop-world.world) (world_of c.evaluate_truth.new.world)
    (world_of c.act.new.world) _ c.loop-world.invariant.same c.in_ok-evaluate_truth.ensures k c.in_ok-act.ensures
    c.if-left-eq0.true) c.used_up.ensures

pub repeat_while-loop-world-preserved : goal.loops::repeat_while-loop-world-preserved
repeat_while-loop-world-preserved t c =
    let k : c.in_ok-evaluate_truth.field-0 ≡ true = search (rules, c.if-not-branch.false) in
    record {
      same = repeating.while_next c.args.here.setup.now c.loop-world.left (expr_of c.args.condition.now)
          (statement_of c.args.body.now) (context_of c.args.here.context.now) c.in_ok-evaluate_truth.field-0
          (world_of c.loop-world.world) (world_of c.evaluate_truth.new.world)
          (world_of c.act.new.world) _ c.loop-world.invariant.same c.in_ok-evaluate_truth.ensures k c.in_ok-act.ensures
          c.if-left-eq0.false;
      left = let le : c.loop-world.left ≤ c.args.here.fuel = c.loop-world.invariant.left in omega arith;
    }

pub repeat_until-returns-in_err-act_all : goal.loops::repeat_until-returns-in_err-act_all
repeat_until-returns-in_err-act_all t c =
    let h : Halted (acting c.args.here.setup.now c.args.here.fuel
    (Tree.Repeat (statements_of c.args.body.now) (expr_of c.args.condition.now))
    (context_of c.args.here.context.now) (world_of c.args.world.now)) c.args.here.depth
    (levels c.args.here.setup.now c.args.here.fuel
    (max (statements_height (statements_of c.args.body.now)) (expr_height (expr_of c.args.condition.now))))
    c.in_err-act_all.field-0.0 c.act_all.new.world = repeating.repeat_halt c.args.here.setup.now c.loop-world.left
    c.args.here.fuel (statements_of c.args.body.now) (expr_of c.args.condition.now)
    (context_of c.args.here.context.now) _ (world_of c.loop-world.world) c.act_all.new.world _ c.args.here.depth
    c.loop-world.invariant.left c.loop-world.invariant.same c.in_err-act_all.ensures in
    handed_on _ _ _ _ _ _ _ c.from_residual.ensures.1 h

pub repeat_until-returns-in_err-evaluate_truth : goal.loops::repeat_until-returns-in_err-evaluate_truth
repeat_until-returns-in_err-evaluate_truth t c =
    let h : Halted (acting c.args.here.setup.now c.args.here.fuel
    (Tree.Repeat (statements_of c.args.body.now) (expr_of c.args.condition.now))
    (context_of c.args.here.context.now) (world_of c.args.world.now)) c.args.here.depth
    (levels c.args.here.setup.now c.args.here.fuel
    (max (statements_height (statements_of c.args.body.now)) (expr_height (expr_of c.args.condition.now))))
    c.in_err-evaluate_truth.field-0.0 c.evaluate_truth.new.world = repeating.repeat_until_halt c.args.here.setup.now
    c.loop-world.left c.args.here.fuel (statements_of c.args.body.now) (expr_of c.args.condition.now)
    (context_of c.args.here.context.now) _ (world_of c.loop-world.world)
    (world_of c.act_all.new.world) c.evaluate_truth.new.world _ c.args.here.depth c.loop-world.invariant.left
    c.loop-world.invariant.same c.in_ok-act_all.ensures c.in_err-evaluate_truth.ensures in
    handed_on _ _ _ _ _ _ _ c.from_residual-in_err-evaluate_truth.ensures.1 h

pub repeat_until-returns-then-left-eq0 : goal.loops::repeat_until-returns-then-left-eq0
repeat_until-returns-then-left-eq0 t c =
    a.halts_same _ _ c.used_up.result c.evaluate_truth.new.world _ _
    (repeating.repeat_over c.args.here.setup.now c.loop-world.left (statements_of c.args.body.now)
    (expr_of c.args.condition.now) (context_of c.args.here.context.now) c.in_ok-evaluate_truth.field-0
    (world_of c.loop-world.world) (world_of c.act_all.new.world)
    (world_of c.evaluate_truth.new.world) _ c.loop-world.invariant.same c.in_ok-act_all.ensures
    c.in_ok-evaluate_truth.ensures c.if-branch.false c.if-left-eq0.true) c.used_up.ensures

pub repeat_until-loop-world-preserved : goal.loops::repeat_until-loop-world-preserved
repeat_until-loop-world-preserved t c =
    record {
      same = repeating.repeat_next c.args.here.setup.now c.loop-world.left (statements_of c.args.body.now)
          (expr_of c.args.condition.now) (context_of c.args.here.context.now) c.in_ok-evaluate_truth.field-0
          (world_of c.loop-world.world) (world_of c.act_all.new.world)
          (world_of c.evaluate_truth.new.world) _ c.loop-world.invariant.same c.in_ok-act_all.ensures
          c.in_ok-evaluate_truth.ensures c.if-branch.false c.if-left-eq0.false;
      left = let le : c.loop-world.left ≤ c.args.here.fuel = c.loop-world.invariant.left in omega arith;
    }

pub turns-returns-in_err-act : goal.loops::turns-returns-in_err-act
turns-returns-in_err-act t c =
    let h : Halted (turning c.args.here.setup.now c.args.here.fuel c.args.variable c.args.direction
    (number_of (value_of c.args.last.now)) (statement_of c.args.body.now) (context_of c.args.here.context.now)
    (world_of c.args.world.now)) c.args.here.depth
    (levels c.args.here.setup.now c.args.here.fuel (statement_height (statement_of c.args.body.now)))
    c.in_err-act.field-0.0 c.act.new.world = counted.turns_halt c.args.here.setup.now c.loop-world.left c.args.here.fuel
    c.args.variable c.args.direction (number_of (value_of c.args.last.now)) (statement_of c.args.body.now)
    (context_of c.args.here.context.now) _ (world_of c.loop-world.world) c.act.new.world _ c.args.here.depth
    c.loop-world.invariant.left c.loop-world.invariant.same c.in_err-act.ensures in
    handed_on _ _ _ _ _ _ _ c.from_residual.ensures.1 h

pub turns-returns-then-left-eq0 : goal.loops::turns-returns-then-left-eq0
turns-returns-then-left-eq0 t c =
    a.halts_same _ _ c.used_up.result c.act.new.world _ _
    (counted.turns_over c.args.here.setup.now c.loop-world.left c.args.variable c.args.direction
    (number_of (value_of c.args.last.now)) (statement_of c.args.body.now) (context_of c.args.here.context.now)
    (world_of c.loop-world.world) (world_of c.act.new.world) _ c.loop-world.invariant.same c.in_ok-act.ensures
    c.if-left-eq0.true) c.used_up.ensures

pub turns-returns-then-not-branch : goal.loops::turns-returns-then-not-branch
turns-returns-then-not-branch t c =
    let k : c.in_ok-advance.field-0 ≡ false = search (rules, c.if-not-branch.true) in
    counted.turns_done c.args.here.setup.now c.loop-world.left c.args.variable c.args.direction
    (number_of (value_of c.args.last.now)) (statement_of c.args.body.now)
    (context_of c.args.here.context.now) _ c.in_ok-advance.field-0 (world_of c.loop-world.world)
    (world_of c.act.new.world) (world_of c.advance.new.world) _ c.loop-world.invariant.same c.in_ok-act.ensures
    c.if-left-eq0.false refl c.in_ok-advance.ensures k

pub turns-loop-world-preserved : goal.loops::turns-loop-world-preserved
turns-loop-world-preserved t c =
    let k : c.in_ok-advance.field-0 ≡ true = search (rules, c.if-not-branch.false) in
    record {
      same = counted.turns_next c.args.here.setup.now c.loop-world.left c.args.variable c.args.direction
          (number_of (value_of c.args.last.now)) (statement_of c.args.body.now)
          (context_of c.args.here.context.now) _ c.in_ok-advance.field-0 (world_of c.loop-world.world)
          (world_of c.act.new.world) (world_of c.advance.new.world) _ c.loop-world.invariant.same c.in_ok-act.ensures
          c.if-left-eq0.false refl c.in_ok-advance.ensures k;
      left = let le : c.loop-world.left ≤ c.args.here.fuel = c.loop-world.invariant.left in omega arith;
    }
