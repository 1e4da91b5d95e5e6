-- What a call within the cycle needs: its measure is less.

use Rattle.std.proofs.Common.{arith}
use Rattle.ps_meaning_runner.proofs.+run.Goals as goal

pub calls::call_procedure-take_actuals-requires : goal.calls::call_procedure-take_actuals-requires
calls::call_procedure-take_actuals-requires t c = (omega (arith, c.decreases), tt)

pub calls::call_value-take_actuals-requires : goal.calls::call_value-take_actuals-requires
calls::call_value-take_actuals-requires t c = (omega (arith, c.decreases), tt)

pub choices::act_if-evaluate-requires : goal.choices::act_if-evaluate-requires
choices::act_if-evaluate-requires t c = (omega (arith, c.decreases), tt)

pub choices::act_if-act-requires : goal.choices::act_if-act-requires
choices::act_if-act-requires t c = (omega (arith, c.decreases), tt)

pub choices::act_if_else-evaluate-requires : goal.choices::act_if_else-evaluate-requires
choices::act_if_else-evaluate-requires t c = (omega (arith, c.decreases), tt)

pub choices::act_if_else-act-requires : goal.choices::act_if_else-act-requires
choices::act_if_else-act-requires t c = (omega (arith, c.decreases), tt)

pub choices::act_if_else-act-requires-else-is_true : goal.choices::act_if_else-act-requires-else-is_true
choices::act_if_else-act-requires-else-is_true t c = (omega (arith, c.decreases), tt)

pub choices::choose-evaluate-requires : goal.choices::choose-evaluate-requires
choices::choose-evaluate-requires t c = (omega (arith, c.decreases), tt)

pub choices::choose-act-requires : goal.choices::choose-act-requires
choices::choose-act-requires t c = (omega (arith, c.decreases), tt)

pub expressions::access-select-requires : goal.expressions::access-select-requires
expressions::access-select-requires t c = (omega (arith, c.decreases), tt)

pub expressions::combine_all-evaluate_set-requires : goal.expressions::combine_all-evaluate_set-requires
expressions::combine_all-evaluate_set-requires t c = (omega (arith, c.decreases), tt)

pub expressions::combine_all-evaluate_set-requires-in-loop-step
    : goal.expressions::combine_all-evaluate_set-requires-in-loop-step
expressions::combine_all-evaluate_set-requires-in-loop-step t c = (omega (arith, c.decreases), tt)

pub expressions::evaluate-access-requires : goal.expressions::evaluate-access-requires
expressions::evaluate-access-requires t c = (omega (arith, c.decreases), tt)

pub expressions::evaluate-evaluate-requires : goal.expressions::evaluate-evaluate-requires
expressions::evaluate-evaluate-requires t c = (omega (arith, c.decreases), tt)

pub expressions::evaluate-evaluate-requires-in-Minus : goal.expressions::evaluate-evaluate-requires-in-Minus
expressions::evaluate-evaluate-requires-in-Minus t c = (omega (arith, c.decreases), tt)

pub expressions::evaluate-evaluate-requires-in-Not : goal.expressions::evaluate-evaluate-requires-in-Not
expressions::evaluate-evaluate-requires-in-Not t c = (omega (arith, c.decreases), tt)

pub expressions::evaluate-calculate-requires : goal.expressions::evaluate-calculate-requires
expressions::evaluate-calculate-requires t c = (omega (arith, c.decreases), tt)

pub expressions::evaluate-combine-requires : goal.expressions::evaluate-combine-requires
expressions::evaluate-combine-requires t c = (omega (arith, c.decreases), tt)

pub expressions::evaluate-compare-requires : goal.expressions::evaluate-compare-requires
expressions::evaluate-compare-requires t c = (omega (arith, c.decreases), tt)

pub expressions::evaluate-compare-requires-in-ComparePointers
    : goal.expressions::evaluate-compare-requires-in-ComparePointers
expressions::evaluate-compare-requires-in-ComparePointers t c = (omega (arith, c.decreases), tt)

pub expressions::evaluate-compare_sets-requires : goal.expressions::evaluate-compare_sets-requires
expressions::evaluate-compare_sets-requires t c = (omega (arith, c.decreases), tt)

pub expressions::evaluate-compare_strings-requires : goal.expressions::evaluate-compare_strings-requires
expressions::evaluate-compare_strings-requires t c = (omega (arith, c.decreases), tt)

pub expressions::evaluate-test_member-requires : goal.expressions::evaluate-test_member-requires
expressions::evaluate-test_member-requires t c = (omega (arith, c.decreases), tt)

pub expressions::evaluate-evaluate-requires-in-Apply : goal.expressions::evaluate-evaluate-requires-in-Apply
expressions::evaluate-evaluate-requires-in-Apply t c = (omega (arith, c.decreases), tt)

pub expressions::evaluate-call_value-requires : goal.expressions::evaluate-call_value-requires
expressions::evaluate-call_value-requires t c = (omega (arith, c.decreases), tt)

pub expressions::evaluate-call_value-requires-in-CallFormal
    : goal.expressions::evaluate-call_value-requires-in-CallFormal
expressions::evaluate-call_value-requires-in-CallFormal t c = (omega (arith, c.decreases), tt)

pub expressions::evaluate_member-evaluate-requires : goal.expressions::evaluate_member-evaluate-requires
expressions::evaluate_member-evaluate-requires t c = (omega (arith, c.decreases), tt)

pub expressions::evaluate_member-evaluate-requires-in-Range
    : goal.expressions::evaluate_member-evaluate-requires-in-Range
expressions::evaluate_member-evaluate-requires-in-Range t c = (omega (arith, c.decreases), tt)

pub expressions::evaluate_member-evaluate-requires-in-Range-2
    : goal.expressions::evaluate_member-evaluate-requires-in-Range-2
expressions::evaluate_member-evaluate-requires-in-Range-2 t c = (omega (arith, c.decreases), tt)

pub expressions::evaluate_members-evaluate_member-requires : goal.expressions::evaluate_members-evaluate_member-requires
expressions::evaluate_members-evaluate_member-requires t c = (omega (arith, c.decreases), tt)

pub expressions::evaluate_set-access-requires : goal.expressions::evaluate_set-access-requires
expressions::evaluate_set-access-requires t c = (omega (arith, c.decreases), tt)

pub expressions::evaluate_set-evaluate_members-requires : goal.expressions::evaluate_set-evaluate_members-requires
expressions::evaluate_set-evaluate_members-requires t c = (omega (arith, c.decreases), tt)

pub expressions::evaluate_set-combine_all-requires : goal.expressions::evaluate_set-combine_all-requires
expressions::evaluate_set-combine_all-requires t c = (omega (arith, c.decreases), tt)

pub expressions::evaluate_truth-evaluate-requires : goal.expressions::evaluate_truth-evaluate-requires
expressions::evaluate_truth-evaluate-requires t c = (omega (arith, c.decreases), tt)

pub expressions::select-evaluate-requires : goal.expressions::select-evaluate-requires
expressions::select-evaluate-requires t c = (omega (arith, c.decreases), tt)

pub expressions::take_actual-evaluate-requires : goal.expressions::take_actual-evaluate-requires
expressions::take_actual-evaluate-requires t c = (omega (arith, c.decreases), tt)

pub expressions::take_actual-evaluate_set-requires : goal.expressions::take_actual-evaluate_set-requires
expressions::take_actual-evaluate_set-requires t c = (omega (arith, c.decreases), tt)

pub expressions::take_actual-take_operand-requires : goal.expressions::take_actual-take_operand-requires
expressions::take_actual-take_operand-requires t c = (omega (arith, c.decreases), tt)

pub expressions::take_actual-access-requires : goal.expressions::take_actual-access-requires
expressions::take_actual-access-requires t c = (omega (arith, c.decreases), tt)

pub expressions::take_actuals-take_actual-requires : goal.expressions::take_actuals-take_actual-requires
expressions::take_actuals-take_actual-requires t c = (omega (arith, c.decreases), tt)

pub expressions::take_operand-access-requires : goal.expressions::take_operand-access-requires
expressions::take_operand-access-requires t c = (omega (arith, c.decreases), tt)

pub loops::count-evaluate-requires : goal.loops::count-evaluate-requires
loops::count-evaluate-requires t c = (omega (arith, c.decreases), tt)

pub loops::count-evaluate-requires-2 : goal.loops::count-evaluate-requires-2
loops::count-evaluate-requires-2 t c = (omega (arith, c.decreases), tt)

pub loops::count-turns-requires : goal.loops::count-turns-requires
loops::count-turns-requires t c = (omega (arith, c.decreases), tt)

pub loops::repeat_until-act_all-requires : goal.loops::repeat_until-act_all-requires
loops::repeat_until-act_all-requires t c = (omega (arith, c.decreases), tt)

pub loops::repeat_until-evaluate_truth-requires : goal.loops::repeat_until-evaluate_truth-requires
loops::repeat_until-evaluate_truth-requires t c = (omega (arith, c.decreases), tt)

pub loops::repeat_while-evaluate_truth-requires : goal.loops::repeat_while-evaluate_truth-requires
loops::repeat_while-evaluate_truth-requires t c = (omega (arith, c.decreases), tt)

pub loops::repeat_while-act-requires : goal.loops::repeat_while-act-requires
loops::repeat_while-act-requires t c = (omega (arith, c.decreases), tt)

pub loops::turns-act-requires : goal.loops::turns-act-requires
loops::turns-act-requires t c = (omega (arith, c.decreases), tt)

pub operations::calculate-evaluate-requires : goal.operations::calculate-evaluate-requires
operations::calculate-evaluate-requires t c = (omega (arith, c.decreases), tt)

pub operations::calculate-evaluate-requires-in-loop-step : goal.operations::calculate-evaluate-requires-in-loop-step
operations::calculate-evaluate-requires-in-loop-step t c = (omega (arith, c.decreases), tt)

pub operations::combine-evaluate_truth-requires : goal.operations::combine-evaluate_truth-requires
operations::combine-evaluate_truth-requires t c = (omega (arith, c.decreases), tt)

pub operations::combine-evaluate_truth-requires-in-loop-operand
    : goal.operations::combine-evaluate_truth-requires-in-loop-operand
operations::combine-evaluate_truth-requires-in-loop-operand t c = (omega (arith, c.decreases), tt)

pub operations::compare-evaluate-requires : goal.operations::compare-evaluate-requires
operations::compare-evaluate-requires t c = (omega (arith, c.decreases), tt)

pub operations::compare-evaluate-requires-2 : goal.operations::compare-evaluate-requires-2
operations::compare-evaluate-requires-2 t c = (omega (arith, c.decreases), tt)

pub operations::compare_sets-evaluate_set-requires : goal.operations::compare_sets-evaluate_set-requires
operations::compare_sets-evaluate_set-requires t c = (omega (arith, c.decreases), tt)

pub operations::compare_sets-evaluate_set-requires-2 : goal.operations::compare_sets-evaluate_set-requires-2
operations::compare_sets-evaluate_set-requires-2 t c = (omega (arith, c.decreases), tt)

pub operations::compare_strings-take_operand-requires : goal.operations::compare_strings-take_operand-requires
operations::compare_strings-take_operand-requires t c = (omega (arith, c.decreases), tt)

pub operations::compare_strings-take_operand-requires-2 : goal.operations::compare_strings-take_operand-requires-2
operations::compare_strings-take_operand-requires-2 t c = (omega (arith, c.decreases), tt)

pub operations::test_member-evaluate-requires : goal.operations::test_member-evaluate-requires
operations::test_member-evaluate-requires t c = (omega (arith, c.decreases), tt)

pub operations::test_member-evaluate_set-requires : goal.operations::test_member-evaluate_set-requires
operations::test_member-evaluate_set-requires t c = (omega (arith, c.decreases), tt)

pub statements::act-assign-requires : goal.statements::act-assign-requires
statements::act-assign-requires t c = (omega (arith, c.decreases), tt)

pub statements::act-assign_set-requires : goal.statements::act-assign_set-requires
statements::act-assign_set-requires t c = (omega (arith, c.decreases), tt)

pub statements::act-assign_structure-requires : goal.statements::act-assign_structure-requires
statements::act-assign_structure-requires t c = (omega (arith, c.decreases), tt)

pub statements::act-call_procedure-requires : goal.statements::act-call_procedure-requires
statements::act-call_procedure-requires t c = (omega (arith, c.decreases), tt)

pub statements::act-call_procedure-requires-in-CallFormal : goal.statements::act-call_procedure-requires-in-CallFormal
statements::act-call_procedure-requires-in-CallFormal t c = (omega (arith, c.decreases), tt)

pub statements::act-act_all-requires : goal.statements::act-act_all-requires
statements::act-act_all-requires t c = (omega (arith, c.decreases), tt)

pub statements::act-act_if-requires : goal.statements::act-act_if-requires
statements::act-act_if-requires t c = (omega (arith, c.decreases), tt)

pub statements::act-act_if_else-requires : goal.statements::act-act_if_else-requires
statements::act-act_if_else-requires t c = (omega (arith, c.decreases), tt)

pub statements::act-choose-requires : goal.statements::act-choose-requires
statements::act-choose-requires t c = (omega (arith, c.decreases), tt)

pub statements::act-repeat_while-requires : goal.statements::act-repeat_while-requires
statements::act-repeat_while-requires t c = (omega (arith, c.decreases), tt)

pub statements::act-repeat_until-requires : goal.statements::act-repeat_until-requires
statements::act-repeat_until-requires t c = (omega (arith, c.decreases), tt)

pub statements::act-count-requires : goal.statements::act-count-requires
statements::act-count-requires t c = (omega (arith, c.decreases), tt)

pub statements::act-act_with-requires : goal.statements::act-act_with-requires
statements::act-act_with-requires t c = (omega (arith, c.decreases), tt)

pub statements::act-access-requires : goal.statements::act-access-requires
statements::act-access-requires t c = (omega (arith, c.decreases), tt)

pub statements::act-pack-requires : goal.statements::act-pack-requires
statements::act-pack-requires t c = (omega (arith, c.decreases), tt)

pub statements::act-unpack-requires : goal.statements::act-unpack-requires
statements::act-unpack-requires t c = (omega (arith, c.decreases), tt)

pub statements::act-read_all-requires : goal.statements::act-read_all-requires
statements::act-read_all-requires t c = (omega (arith, c.decreases), tt)

pub statements::act-read_all-requires-in-Readln : goal.statements::act-read_all-requires-in-Readln
statements::act-read_all-requires-in-Readln t c = (omega (arith, c.decreases), tt)

pub statements::act-write_all-requires : goal.statements::act-write_all-requires
statements::act-write_all-requires t c = (omega (arith, c.decreases), tt)

pub statements::act-write_all-requires-in-Writeln : goal.statements::act-write_all-requires-in-Writeln
statements::act-write_all-requires-in-Writeln t c = (omega (arith, c.decreases), tt)

pub statements::act_all-act-requires : goal.statements::act_all-act-requires
statements::act_all-act-requires t c = (omega (arith, c.decreases), tt)

pub statements::act_with-access-requires : goal.statements::act_with-access-requires
statements::act_with-access-requires t c = (omega (arith, c.decreases), tt)

pub statements::act_with-act-requires : goal.statements::act_with-act-requires
statements::act_with-act-requires t c = (omega (arith, c.decreases), tt)

pub statements::assign-access-requires : goal.statements::assign-access-requires
statements::assign-access-requires t c = (omega (arith, c.decreases), tt)

pub statements::assign-evaluate-requires : goal.statements::assign-evaluate-requires
statements::assign-evaluate-requires t c = (omega (arith, c.decreases), tt)

pub statements::assign_set-access-requires : goal.statements::assign_set-access-requires
statements::assign_set-access-requires t c = (omega (arith, c.decreases), tt)

pub statements::assign_set-evaluate_set-requires : goal.statements::assign_set-evaluate_set-requires
statements::assign_set-evaluate_set-requires t c = (omega (arith, c.decreases), tt)

pub statements::assign_structure-access-requires : goal.statements::assign_structure-access-requires
statements::assign_structure-access-requires t c = (omega (arith, c.decreases), tt)

pub statements::assign_structure-take_operand-requires : goal.statements::assign_structure-take_operand-requires
statements::assign_structure-take_operand-requires t c = (omega (arith, c.decreases), tt)

pub statements::pack-access-requires : goal.statements::pack-access-requires
statements::pack-access-requires t c = (omega (arith, c.decreases), tt)

pub statements::pack-evaluate-requires : goal.statements::pack-evaluate-requires
statements::pack-evaluate-requires t c = (omega (arith, c.decreases), tt)

pub statements::pack-access-requires-2 : goal.statements::pack-access-requires-2
statements::pack-access-requires-2 t c = (omega (arith, c.decreases), tt)

pub statements::unpack-access-requires : goal.statements::unpack-access-requires
statements::unpack-access-requires t c = (omega (arith, c.decreases), tt)

pub statements::unpack-access-requires-2 : goal.statements::unpack-access-requires-2
statements::unpack-access-requires-2 t c = (omega (arith, c.decreases), tt)

pub statements::unpack-evaluate-requires : goal.statements::unpack-evaluate-requires
statements::unpack-evaluate-requires t c = (omega (arith, c.decreases), tt)

pub transfers::evaluate_width-evaluate-requires : goal.transfers::evaluate_width-evaluate-requires
transfers::evaluate_width-evaluate-requires t c = (omega (arith, c.decreases), tt)

pub transfers::read_all-access-requires : goal.transfers::read_all-access-requires
transfers::read_all-access-requires t c = (omega (arith, c.decreases), tt)

pub transfers::write_all-write_one-requires : goal.transfers::write_all-write_one-requires
transfers::write_all-write_one-requires t c = (omega (arith, c.decreases), tt)

pub transfers::write_contents-take_operand-requires : goal.transfers::write_contents-take_operand-requires
transfers::write_contents-take_operand-requires t c = (omega (arith, c.decreases), tt)

pub transfers::write_contents-evaluate_width-requires : goal.transfers::write_contents-evaluate_width-requires
transfers::write_contents-evaluate_width-requires t c = (omega (arith, c.decreases), tt)

pub transfers::write_evaluated-evaluate-requires : goal.transfers::write_evaluated-evaluate-requires
transfers::write_evaluated-evaluate-requires t c = (omega (arith, c.decreases), tt)

pub transfers::write_evaluated-evaluate_width-requires : goal.transfers::write_evaluated-evaluate_width-requires
transfers::write_evaluated-evaluate_width-requires t c = (omega (arith, c.decreases), tt)

pub transfers::write_one-write_evaluated-requires : goal.transfers::write_one-write_evaluated-requires
transfers::write_one-write_evaluated-requires t c = (omega (arith, c.decreases), tt)

pub transfers::write_one-write_evaluated-requires-in-Char : goal.transfers::write_one-write_evaluated-requires-in-Char
transfers::write_one-write_evaluated-requires-in-Char t c = (omega (arith, c.decreases), tt)

pub transfers::write_one-write_evaluated-requires-in-Boolean
    : goal.transfers::write_one-write_evaluated-requires-in-Boolean
transfers::write_one-write_evaluated-requires-in-Boolean t c = (omega (arith, c.decreases), tt)

pub transfers::write_one-write_contents-requires : goal.transfers::write_one-write_contents-requires
transfers::write_one-write_contents-requires t c = (omega (arith, c.decreases), tt)
