use Rattle.std.proofs.Common.{◌≡◌, ◌≤◌, ◌+◌, ◌*◌, map, drop}
use Rattle.ps_meaning.specs.Statements.{with_opened}
use Rattle.ps_tree.specs.View.{selectors_of, arithmetic_of, operands_of, set_of, set_steps_of, place_of, read_of}
use Rattle.ps_tree.specs.View.{write_of, members_of, arguments_of, expr_of, statement_of, statements_of}
use Rattle.ps_meaning.specs.Expressions as e
use Rattle.ps_meaning_runner.specs.Worlds.{caller, context_of, world_of, actual_of, acting, acting_all, turning}
use Rattle.ps_meaning_runner.specs.Worlds.{reading_all, writing_all, opening_all, opened_in}
use Rattle.ps_meaning_runner.proofs.Answers.{members_left, actuals_left}
use Rattle.ps_meaning_runner.proofs.+run.Given as goal
use Rattle.ps_tree.specs.Tree as Tree
use Rattle.ps_meaning.specs.Values.{number_of}
use Rattle.ps_meaning_runner.specs.View.{listed, value_of, spot_of}

abbrev pub decreases-expressions::access : goal.decreases-expressions::access
decreases-expressions::access l = 16 * l.here.depth

abbrev pub decreases-expressions::evaluate : goal.decreases-expressions::evaluate
decreases-expressions::evaluate l = 16 * l.here.depth

abbrev pub decreases-expressions::evaluate_set : goal.decreases-expressions::evaluate_set
decreases-expressions::evaluate_set l = 16 * l.here.depth

abbrev pub decreases-expressions::take_operand : goal.decreases-expressions::take_operand
decreases-expressions::take_operand l = 16 * l.here.depth + 1

abbrev pub decreases-expressions::evaluate_member : goal.decreases-expressions::evaluate_member
decreases-expressions::evaluate_member l = 16 * l.here.depth + 1

abbrev pub decreases-expressions::evaluate_members : goal.decreases-expressions::evaluate_members
decreases-expressions::evaluate_members l = 16 * l.here.depth + 2

abbrev pub decreases-expressions::take_actual : goal.decreases-expressions::take_actual
decreases-expressions::take_actual l = 16 * l.here.depth + 3

abbrev pub decreases-expressions::take_actuals : goal.decreases-expressions::take_actuals
decreases-expressions::take_actuals l = 16 * l.here.depth + 4

abbrev pub invariant-expressions::evaluate_members-loop-member
    : goal.invariant-expressions::evaluate_members-loop-member
invariant-expressions::evaluate_members-loop-member l = members_left (caller l.here.setup.now l.here.fuel)
    (context_of l.here.context.now) l.members l.member-index l.tests.items (world_of l.world) ≡ e.members_value
    (caller l.here.setup.now l.here.fuel) (members_of l.members) (context_of l.here.context.now) (world_of l.fn.world)

abbrev pub invariant-expressions::take_actuals-loop-argument : goal.invariant-expressions::take_actuals-loop-argument
invariant-expressions::take_actuals-loop-argument l = actuals_left (caller l.here.setup.now l.here.fuel)
    (context_of l.here.context.now) l.arguments l.argument-index (map actual_of l.actuals.items) (world_of l.world)
    ≡ e.actuals_of (caller l.here.setup.now l.here.fuel) (arguments_of l.arguments) (context_of l.here.context.now)
    (world_of l.fn.world)

abbrev pub decreases-calls::call_value : goal.decreases-calls::call_value
decreases-calls::call_value l = 16 * l.here.depth + 5

abbrev pub decreases-statements::act : goal.decreases-statements::act
decreases-statements::act l = 16 * l.here.depth + 0

abbrev pub decreases-statements::act_all : goal.decreases-statements::act_all
decreases-statements::act_all l = 16 * l.here.depth + 1

abbrev pub decreases-choices::choose : goal.decreases-choices::choose
decreases-choices::choose l = 16 * l.here.depth + 3

abbrev pub decreases-loops::repeat_while : goal.decreases-loops::repeat_while
decreases-loops::repeat_while l = 16 * l.here.depth + 2

abbrev pub decreases-loops::repeat_until : goal.decreases-loops::repeat_until
decreases-loops::repeat_until l = 16 * l.here.depth + 2

abbrev pub decreases-loops::turns : goal.decreases-loops::turns
decreases-loops::turns l = 16 * l.here.depth + 1

abbrev pub invariant-statements::act_all-loop-statement : goal.invariant-statements::act_all-loop-statement
invariant-statements::act_all-loop-statement l = acting_all l.here.setup.now l.here.fuel
    (statements_of (drop l.statement-index l.statements)) (context_of l.here.context.now) (world_of l.world)
    ≡ acting_all l.here.setup.now l.here.fuel (statements_of l.statements) (context_of l.here.context.now)
    (world_of l.fn.world)

abbrev pub invariant-loops::repeat_while-loop-world : goal.invariant-loops::repeat_while-loop-world
invariant-loops::repeat_while-loop-world l = record {
  same : acting l.here.setup.now l.left (Tree.While (expr_of l.condition) (statement_of l.body))
      (context_of l.here.context.now) (world_of l.world) ≡ acting l.here.setup.now l.here.fuel
      (Tree.While (expr_of l.condition) (statement_of l.body)) (context_of l.here.context.now) (world_of l.fn.world);
  left : l.left ≤ l.here.fuel;
}

abbrev pub decreases-loops::repeat_while-loop-world : goal.decreases-loops::repeat_while-loop-world
decreases-loops::repeat_while-loop-world l = l.left

abbrev pub invariant-loops::repeat_until-loop-world : goal.invariant-loops::repeat_until-loop-world
invariant-loops::repeat_until-loop-world l = record {
  same : acting l.here.setup.now l.left (Tree.Repeat (statements_of l.body) (expr_of l.condition))
      (context_of l.here.context.now) (world_of l.world) ≡ acting l.here.setup.now l.here.fuel
      (Tree.Repeat (statements_of l.body) (expr_of l.condition)) (context_of l.here.context.now) (world_of l.fn.world);
  left : l.left ≤ l.here.fuel;
}

abbrev pub decreases-loops::repeat_until-loop-world : goal.decreases-loops::repeat_until-loop-world
decreases-loops::repeat_until-loop-world l = l.left

abbrev pub invariant-loops::turns-loop-world : goal.invariant-loops::turns-loop-world
invariant-loops::turns-loop-world l = record {
  same : turning l.here.setup.now l.left l.variable l.direction (number_of (value_of l.last)) (statement_of l.body)
      (context_of l.here.context.now) (world_of l.world) ≡ turning l.here.setup.now l.here.fuel l.variable l.direction
      (number_of (value_of l.last)) (statement_of l.body) (context_of l.here.context.now) (world_of l.fn.world);
  left : l.left ≤ l.here.fuel;
}

abbrev pub decreases-loops::turns-loop-world : goal.decreases-loops::turns-loop-world
decreases-loops::turns-loop-world l = l.left

abbrev pub decreases-loops::count : goal.decreases-loops::count
decreases-loops::count l = 16 * l.here.depth + 3

abbrev pub decreases-transfers::read_all : goal.decreases-transfers::read_all
decreases-transfers::read_all l = 16 * l.here.depth + 2

abbrev pub decreases-transfers::evaluate_width : goal.decreases-transfers::evaluate_width
decreases-transfers::evaluate_width l = 16 * l.here.depth + 1

abbrev pub decreases-transfers::write_all : goal.decreases-transfers::write_all
decreases-transfers::write_all l = 16 * l.here.depth + 4

abbrev pub decreases-transfers::write_evaluated : goal.decreases-transfers::write_evaluated
decreases-transfers::write_evaluated l = 16 * l.here.depth + 2

abbrev pub decreases-transfers::write_one : goal.decreases-transfers::write_one
decreases-transfers::write_one l = 16 * l.here.depth + 3

abbrev pub decreases-calls::do_block : goal.decreases-calls::do_block
decreases-calls::do_block l = 16 * l.here.depth + 2

abbrev pub invariant-transfers::read_all-loop-variable : goal.invariant-transfers::read_all-loop-variable
invariant-transfers::read_all-loop-variable l = reading_all l.here.setup.now l.here.fuel
    (map read_of (drop l.variable-index l.variables)) (context_of l.here.context.now) (world_of l.world)
    ≡ reading_all l.here.setup.now l.here.fuel (map read_of l.variables) (context_of l.here.context.now)
    (world_of l.fn.world)

abbrev pub invariant-transfers::write_all-loop-parameter : goal.invariant-transfers::write_all-loop-parameter
invariant-transfers::write_all-loop-parameter l = writing_all l.here.setup.now l.here.fuel
    (map write_of (drop l.parameter-index l.parameters)) (context_of l.here.context.now) (world_of l.world)
    ≡ writing_all l.here.setup.now l.here.fuel (map write_of l.parameters) (context_of l.here.context.now)
    (world_of l.fn.world)

abbrev pub invariant-statements::act_with-loop-place : goal.invariant-statements::act_with-loop-place
invariant-statements::act_with-loop-place l = record {
  rest : opening_all l.here.setup.now l.here.fuel (map place_of (drop l.place-index l.places)) (context_of l.inner)
      (world_of l.world) ≡ opening_all l.here.setup.now l.here.fuel (map place_of l.places)
      (context_of l.here.context.now) (world_of l.fn.world);
  kept : context_of l.inner ≡ with_opened (opened_in l.inner) (context_of l.here.context.now);
}

abbrev pub decreases-statements::pack : goal.decreases-statements::pack
decreases-statements::pack l = 16 * l.here.depth + 1

abbrev pub decreases-statements::unpack : goal.decreases-statements::unpack
decreases-statements::unpack l = 16 * l.here.depth + 1

abbrev pub decreases-expressions::evaluate_truth : goal.decreases-expressions::evaluate_truth
decreases-expressions::evaluate_truth l = 16 * l.here.depth + 1

abbrev pub decreases-operations::calculate : goal.decreases-operations::calculate
decreases-operations::calculate l = 16 * l.here.depth + 2

abbrev pub decreases-operations::combine : goal.decreases-operations::combine
decreases-operations::combine l = 16 * l.here.depth + 2

abbrev pub decreases-operations::compare : goal.decreases-operations::compare
decreases-operations::compare l = 16 * l.here.depth + 2

abbrev pub decreases-operations::compare_sets : goal.decreases-operations::compare_sets
decreases-operations::compare_sets l = 16 * l.here.depth + 2

abbrev pub decreases-operations::compare_strings : goal.decreases-operations::compare_strings
decreases-operations::compare_strings l = 16 * l.here.depth + 2

abbrev pub decreases-operations::test_member : goal.decreases-operations::test_member
decreases-operations::test_member l = 16 * l.here.depth + 2

abbrev pub decreases-statements::assign : goal.decreases-statements::assign
decreases-statements::assign l = 16 * l.here.depth + 1

abbrev pub decreases-statements::assign_set : goal.decreases-statements::assign_set
decreases-statements::assign_set l = 16 * l.here.depth + 1

abbrev pub decreases-statements::assign_structure : goal.decreases-statements::assign_structure
decreases-statements::assign_structure l = 16 * l.here.depth + 2

abbrev pub decreases-statements::act_with : goal.decreases-statements::act_with
decreases-statements::act_with l = 16 * l.here.depth + 2

abbrev pub decreases-calls::call_procedure : goal.decreases-calls::call_procedure
decreases-calls::call_procedure l = 16 * l.here.depth + 5

abbrev pub decreases-choices::act_if : goal.decreases-choices::act_if
decreases-choices::act_if l = 16 * l.here.depth + 2

abbrev pub decreases-choices::act_if_else : goal.decreases-choices::act_if_else
decreases-choices::act_if_else l = 16 * l.here.depth + 2

abbrev pub decreases-transfers::write_contents : goal.decreases-transfers::write_contents
decreases-transfers::write_contents l = 16 * l.here.depth + 2

abbrev pub decreases-expressions::select : goal.decreases-expressions::select
decreases-expressions::select l = 16 * l.here.depth + 1

abbrev pub decreases-expressions::combine_all : goal.decreases-expressions::combine_all
decreases-expressions::combine_all l = 16 * l.here.depth + 1

abbrev pub invariant-expressions::access-loop-selector : goal.invariant-expressions::access-loop-selector
invariant-expressions::access-loop-selector l = e.accesses (caller l.here.setup.now l.here.fuel)
    (selectors_of (drop l.selector-index l.selector-items)) (spot_of l.spot) (context_of l.here.context.now)
    (world_of l.world) ≡ e.access (caller l.here.setup.now l.here.fuel) (place_of l.place)
    (context_of l.here.context.now) (world_of l.fn.world)

abbrev pub invariant-expressions::combine_all-loop-step : goal.invariant-expressions::combine_all-loop-step
invariant-expressions::combine_all-loop-step l = e.sets_combined (caller l.here.setup.now l.here.fuel)
    (set_steps_of (drop l.step-index l.steps)) (listed l.tests.items) (context_of l.here.context.now) (world_of l.world)
    ≡ e.set_value (caller l.here.setup.now l.here.fuel) (Tree.Combine (set_of l.first) (set_steps_of l.steps))
    (context_of l.here.context.now) (world_of l.fn.world)

abbrev pub invariant-operations::calculate-loop-step : goal.invariant-operations::calculate-loop-step
invariant-operations::calculate-loop-step l = e.computed (caller l.here.setup.now l.here.fuel)
    (arithmetic_of (drop l.step-index l.steps)) (number_of (value_of l.x)) (context_of l.here.context.now)
    (world_of l.world) ≡ e.value (caller l.here.setup.now l.here.fuel)
    (Tree.Arithmetic (expr_of l.first) (arithmetic_of l.steps)) (context_of l.here.context.now) (world_of l.fn.world)

abbrev pub invariant-operations::combine-loop-operand : goal.invariant-operations::combine-loop-operand
invariant-operations::combine-loop-operand l = e.combined (caller l.here.setup.now l.here.fuel) l.operator
    (operands_of (drop l.operand-index l.rest)) l.x (context_of l.here.context.now) (world_of l.world) ≡ e.value
    (caller l.here.setup.now l.here.fuel) (Tree.Logic l.operator (expr_of l.first) (operands_of l.rest))
    (context_of l.here.context.now) (world_of l.fn.world)
