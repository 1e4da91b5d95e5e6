mod Statements
mod Turns
mod Transfers
mod Operations
mod Calls
mod Expressions
mod Requires
use Rattle.std.proofs.Common.{arith}
use Rattle.ps_meaning_runner.proofs.Answers.{halted_then, answers_run, runs_deeper, members_start, members_next}
use Rattle.ps_meaning_runner.proofs.Answers.{members_end, actuals_start, actuals_next, actuals_end}
use Rattle.ps_meaning_runner.proofs.Acts.{acts_next, acts_end}
use Rattle.ps_meaning_runner.proofs.+run.Answers.Statements as statements
use Rattle.ps_meaning_runner.proofs.+run.Answers.Turns as turns
use Rattle.ps_meaning_runner.proofs.+run.Answers.Transfers as transfers
use Rattle.ps_meaning_runner.proofs.+run.Answers.Operations as operations
use Rattle.ps_meaning_runner.proofs.+run.Answers.Calls as calls
use Rattle.ps_meaning_runner.proofs.+run.Answers.Expressions as expressions
use Rattle.ps_meaning_runner.proofs.+run.Answers.Requires as requires
use Rattle.ps_meaning_runner.proofs.+run.Goals as goal

pub expressions::access-returns-then-here-eq0 : goal.expressions::access-returns-then-here-eq0
expressions::access-returns-then-here-eq0 = expressions.access-returns-then-here-eq0

pub expressions::access-returns-in_err-spot-2 : goal.expressions::access-returns-in_err-spot-2
expressions::access-returns-in_err-spot-2 = expressions.access-returns-in_err-spot-2

pub expressions::access-returns : goal.expressions::access-returns
expressions::access-returns = expressions.access-returns

pub expressions::access-loop-selector-preserved : goal.expressions::access-loop-selector-preserved
expressions::access-loop-selector-preserved = expressions.access-loop-selector-preserved

pub expressions::access-loop-selector-init : goal.expressions::access-loop-selector-init
expressions::access-loop-selector-init = expressions.access-loop-selector-init

pub expressions::evaluate-returns-then-here-eq0 : goal.expressions::evaluate-returns-then-here-eq0
expressions::evaluate-returns-then-here-eq0 = expressions.evaluate-returns-then-here-eq0

pub expressions::evaluate-returns-in-Call : goal.expressions::evaluate-returns-in-Call
expressions::evaluate-returns-in-Call = expressions.evaluate-returns-in-Call

pub expressions::evaluate-returns-in-CallFormal : goal.expressions::evaluate-returns-in-CallFormal
expressions::evaluate-returns-in-CallFormal = expressions.evaluate-returns-in-CallFormal

pub expressions::evaluate-returns-in-Arithmetic : goal.expressions::evaluate-returns-in-Arithmetic
expressions::evaluate-returns-in-Arithmetic = expressions.evaluate-returns-in-Arithmetic

pub expressions::evaluate-returns-in-Logic : goal.expressions::evaluate-returns-in-Logic
expressions::evaluate-returns-in-Logic = expressions.evaluate-returns-in-Logic

pub expressions::evaluate-returns-in-Plus : goal.expressions::evaluate-returns-in-Plus
expressions::evaluate-returns-in-Plus = expressions.evaluate-returns-in-Plus

pub expressions::evaluate-returns-in-Compare : goal.expressions::evaluate-returns-in-Compare
expressions::evaluate-returns-in-Compare = expressions.evaluate-returns-in-Compare

pub expressions::evaluate-returns-in-ComparePointers : goal.expressions::evaluate-returns-in-ComparePointers
expressions::evaluate-returns-in-ComparePointers = expressions.evaluate-returns-in-ComparePointers

pub expressions::evaluate-returns-in-CompareSets : goal.expressions::evaluate-returns-in-CompareSets
expressions::evaluate-returns-in-CompareSets = expressions.evaluate-returns-in-CompareSets

pub expressions::evaluate-returns-in-CompareStrings : goal.expressions::evaluate-returns-in-CompareStrings
expressions::evaluate-returns-in-CompareStrings = expressions.evaluate-returns-in-CompareStrings

pub expressions::evaluate-returns-in-In : goal.expressions::evaluate-returns-in-In
expressions::evaluate-returns-in-In = expressions.evaluate-returns-in-In

pub expressions::evaluate-returns-in-Eof : goal.expressions::evaluate-returns-in-Eof
expressions::evaluate-returns-in-Eof = expressions.evaluate-returns-in-Eof

pub expressions::evaluate-returns-in-Eoln : goal.expressions::evaluate-returns-in-Eoln
expressions::evaluate-returns-in-Eoln = expressions.evaluate-returns-in-Eoln

pub expressions::evaluate-returns-in_ok-evaluate-in-Apply : goal.expressions::evaluate-returns-in_ok-evaluate-in-Apply
expressions::evaluate-returns-in_ok-evaluate-in-Apply = expressions.evaluate-returns-in_ok-evaluate-in-Apply

pub expressions::evaluate-returns-in_ok-evaluate-in-Minus : goal.expressions::evaluate-returns-in_ok-evaluate-in-Minus
expressions::evaluate-returns-in_ok-evaluate-in-Minus = expressions.evaluate-returns-in_ok-evaluate-in-Minus

pub expressions::evaluate-returns-in_err-evaluate-in-Apply : goal.expressions::evaluate-returns-in_err-evaluate-in-Apply
expressions::evaluate-returns-in_err-evaluate-in-Apply = expressions.evaluate-returns-in_err-evaluate-in-Apply

pub expressions::evaluate-returns-in_err-evaluate-in-Minus : goal.expressions::evaluate-returns-in_err-evaluate-in-Minus
expressions::evaluate-returns-in_err-evaluate-in-Minus = expressions.evaluate-returns-in_err-evaluate-in-Minus

pub expressions::evaluate-returns-in_err-evaluate-in-Not : goal.expressions::evaluate-returns-in_err-evaluate-in-Not
expressions::evaluate-returns-in_err-evaluate-in-Not = expressions.evaluate-returns-in_err-evaluate-in-Not

pub expressions::evaluate-returns-in_err-spot-in-Load : goal.expressions::evaluate-returns-in_err-spot-in-Load
expressions::evaluate-returns-in_err-spot-in-Load = expressions.evaluate-returns-in_err-spot-in-Load

pub expressions::evaluate-returns-in_ok-spot-in-Load : goal.expressions::evaluate-returns-in_ok-spot-in-Load
expressions::evaluate-returns-in_ok-spot-in-Load = expressions.evaluate-returns-in_ok-spot-in-Load

pub expressions::evaluate_set-returns-then-here-eq0 : goal.expressions::evaluate_set-returns-then-here-eq0
expressions::evaluate_set-returns-then-here-eq0 = expressions.evaluate_set-returns-then-here-eq0

pub expressions::evaluate_set-returns-in-Combine : goal.expressions::evaluate_set-returns-in-Combine
expressions::evaluate_set-returns-in-Combine = expressions.evaluate_set-returns-in-Combine

pub expressions::evaluate_set-returns-in-Constructor : goal.expressions::evaluate_set-returns-in-Constructor
expressions::evaluate_set-returns-in-Constructor = expressions.evaluate_set-returns-in-Constructor

pub expressions::evaluate_set-returns-in_err-spot-in-Load : goal.expressions::evaluate_set-returns-in_err-spot-in-Load
expressions::evaluate_set-returns-in_err-spot-in-Load = expressions.evaluate_set-returns-in_err-spot-in-Load

pub expressions::evaluate_set-returns-in_ok-spot-in-Load : goal.expressions::evaluate_set-returns-in_ok-spot-in-Load
expressions::evaluate_set-returns-in_ok-spot-in-Load = expressions.evaluate_set-returns-in_ok-spot-in-Load

pub statements::act-returns-then-here-eq0 : goal.statements::act-returns-then-here-eq0
statements::act-returns-then-here-eq0 = statements.act-returns-then-here-eq0

pub statements::act-returns-in-Case : goal.statements::act-returns-in-Case
statements::act-returns-in-Case = statements.act-returns-in-Case

pub statements::act-returns-in-Repeat : goal.statements::act-returns-in-Repeat
statements::act-returns-in-Repeat = statements.act-returns-in-Repeat

pub statements::act-returns-in-Assign : goal.statements::act-returns-in-Assign
statements::act-returns-in-Assign = statements.act-returns-in-Assign

pub statements::act-returns-in-AssignStructure : goal.statements::act-returns-in-AssignStructure
statements::act-returns-in-AssignStructure = statements.act-returns-in-AssignStructure

pub statements::act-returns-in-Call : goal.statements::act-returns-in-Call
statements::act-returns-in-Call = statements.act-returns-in-Call

pub statements::act-returns-in-CallFormal : goal.statements::act-returns-in-CallFormal
statements::act-returns-in-CallFormal = statements.act-returns-in-CallFormal

pub statements::act-returns-in-Compound : goal.statements::act-returns-in-Compound
statements::act-returns-in-Compound = statements.act-returns-in-Compound

pub statements::act-returns-in-If : goal.statements::act-returns-in-If
statements::act-returns-in-If = statements.act-returns-in-If

pub statements::act-returns-in-IfElse : goal.statements::act-returns-in-IfElse
statements::act-returns-in-IfElse = statements.act-returns-in-IfElse

pub statements::act-returns-in-While : goal.statements::act-returns-in-While
statements::act-returns-in-While = statements.act-returns-in-While

pub statements::act-returns-in-With : goal.statements::act-returns-in-With
statements::act-returns-in-With = statements.act-returns-in-With

pub statements::act-returns-in_err-spot-in-New : goal.statements::act-returns-in_err-spot-in-New
statements::act-returns-in_err-spot-in-New = statements.act-returns-in_err-spot-in-New

pub statements::act-returns-in_ok-spot-in-New : goal.statements::act-returns-in_ok-spot-in-New
statements::act-returns-in_ok-spot-in-New = statements.act-returns-in_ok-spot-in-New

pub statements::act-returns-in-Pack : goal.statements::act-returns-in-Pack
statements::act-returns-in-Pack = statements.act-returns-in-Pack

pub statements::act-returns-in-Unpack : goal.statements::act-returns-in-Unpack
statements::act-returns-in-Unpack = statements.act-returns-in-Unpack

pub statements::act-returns-in-Read : goal.statements::act-returns-in-Read
statements::act-returns-in-Read = statements.act-returns-in-Read

pub statements::act-returns-in-Write : goal.statements::act-returns-in-Write
statements::act-returns-in-Write = statements.act-returns-in-Write

pub statements::act-returns-in-AssignSet : goal.statements::act-returns-in-AssignSet
statements::act-returns-in-AssignSet = statements.act-returns-in-AssignSet

pub statements::act-returns-in_err-read_all-in-Readln : goal.statements::act-returns-in_err-read_all-in-Readln
statements::act-returns-in_err-read_all-in-Readln = statements.act-returns-in_err-read_all-in-Readln

pub statements::act-returns-in_err-write_all-in-Writeln : goal.statements::act-returns-in_err-write_all-in-Writeln
statements::act-returns-in_err-write_all-in-Writeln = statements.act-returns-in_err-write_all-in-Writeln

pub statements::act-returns-in_ok-read_all-in-Readln : goal.statements::act-returns-in_ok-read_all-in-Readln
statements::act-returns-in_ok-read_all-in-Readln = statements.act-returns-in_ok-read_all-in-Readln

pub statements::act-returns-in_ok-write_all-in-Writeln : goal.statements::act-returns-in_ok-write_all-in-Writeln
statements::act-returns-in_ok-write_all-in-Writeln = statements.act-returns-in_ok-write_all-in-Writeln

pub expressions::evaluate_members-returns-in_err-more : goal.expressions::evaluate_members-returns-in_err-more
expressions::evaluate_members-returns-in_err-more = expressions.evaluate_members-returns-in_err-more

pub expressions::evaluate_members-loop-member-init : goal.expressions::evaluate_members-loop-member-init
expressions::evaluate_members-loop-member-init t c = grind (arith, members_start)

pub expressions::evaluate_members-loop-member-preserved : goal.expressions::evaluate_members-loop-member-preserved
expressions::evaluate_members-loop-member-preserved t c = grind (arith, members_next)

pub expressions::evaluate_members-returns : goal.expressions::evaluate_members-returns
expressions::evaluate_members-returns t c = grind (arith, members_end)

pub expressions::take_actuals-returns-in_err-actual : goal.expressions::take_actuals-returns-in_err-actual
expressions::take_actuals-returns-in_err-actual = calls.take_actuals-returns-in_err-actual

pub expressions::take_actuals-loop-argument-init : goal.expressions::take_actuals-loop-argument-init
expressions::take_actuals-loop-argument-init t c = grind (arith, actuals_start)

pub expressions::take_actuals-loop-argument-preserved : goal.expressions::take_actuals-loop-argument-preserved
expressions::take_actuals-loop-argument-preserved t c = grind (arith, actuals_next)

pub expressions::take_actuals-returns : goal.expressions::take_actuals-returns
expressions::take_actuals-returns t c = grind (arith, actuals_end)

pub calls::call_procedure-returns-in_err-body : goal.calls::call_procedure-returns-in_err-body
calls::call_procedure-returns-in_err-body = calls.call_procedure-returns-in_err-body

pub calls::call_procedure-returns : goal.calls::call_procedure-returns
calls::call_procedure-returns = calls.call_procedure-returns

pub calls::call_procedure-returns-in_err-actuals : goal.calls::call_procedure-returns-in_err-actuals
calls::call_procedure-returns-in_err-actuals = calls.call_procedure-returns-in_err-actuals

pub calls::call_value-returns-in_err-body : goal.calls::call_value-returns-in_err-body
calls::call_value-returns-in_err-body = calls.call_value-returns-in_err-body

pub calls::call_value-returns-in_err-do_block : goal.calls::call_value-returns-in_err-do_block
calls::call_value-returns-in_err-do_block = calls.call_value-returns-in_err-do_block

pub calls::call_value-returns : goal.calls::call_value-returns
calls::call_value-returns = calls.call_value-returns

pub calls::call_value-returns-in_err-actuals : goal.calls::call_value-returns-in_err-actuals
calls::call_value-returns-in_err-actuals = calls.call_value-returns-in_err-actuals

pub calls::do_block-returns-then-here-eq0 : goal.calls::do_block-returns-then-here-eq0
calls::do_block-returns-then-here-eq0 = calls.do_block-returns-then-here-eq0

pub calls::do_block-returns-else-here-eq0 : goal.calls::do_block-returns-else-here-eq0
calls::do_block-returns-else-here-eq0 = calls.do_block-returns-else-here-eq0

pub statements::act_all-returns-in_err-act : goal.statements::act_all-returns-in_err-act
statements::act_all-returns-in_err-act = statements.act_all-returns-in_err-act

pub statements::act_all-loop-statement-preserved : goal.statements::act_all-loop-statement-preserved
statements::act_all-loop-statement-preserved t c = grind (arith, acts_next)

pub statements::act_all-returns : goal.statements::act_all-returns
statements::act_all-returns t c = grind (arith, acts_end)

pub choices::choose-returns-in-Some : goal.choices::choose-returns-in-Some
choices::choose-returns-in-Some = statements.choose-returns-in-Some

pub choices::choose-returns : goal.choices::choose-returns
choices::choose-returns = statements.choose-returns

pub choices::choose-returns-in_err-x : goal.choices::choose-returns-in_err-x
choices::choose-returns-in_err-x = statements.choose-returns-in_err-x

pub transfers::read_all-returns-in_err-spot : goal.transfers::read_all-returns-in_err-spot
transfers::read_all-returns-in_err-spot = transfers.read_all-returns-in_err-spot

pub transfers::read_all-returns-in_err-read_into : goal.transfers::read_all-returns-in_err-read_into
transfers::read_all-returns-in_err-read_into = transfers.read_all-returns-in_err-read_into

pub transfers::read_all-returns : goal.transfers::read_all-returns
transfers::read_all-returns = transfers.read_all-returns

pub transfers::read_all-loop-variable-preserved : goal.transfers::read_all-loop-variable-preserved
transfers::read_all-loop-variable-preserved = transfers.read_all-loop-variable-preserved

pub transfers::write_all-returns-in_err-write_one : goal.transfers::write_all-returns-in_err-write_one
transfers::write_all-returns-in_err-write_one = transfers.write_all-returns-in_err-write_one

pub transfers::write_all-returns : goal.transfers::write_all-returns
transfers::write_all-returns = transfers.write_all-returns

pub transfers::write_all-loop-parameter-preserved : goal.transfers::write_all-loop-parameter-preserved
transfers::write_all-loop-parameter-preserved = transfers.write_all-loop-parameter-preserved

pub statements::act_with-returns-in_err-spot : goal.statements::act_with-returns-in_err-spot
statements::act_with-returns-in_err-spot = statements.act_with-returns-in_err-spot

pub statements::act_with-loop-place-preserved : goal.statements::act_with-loop-place-preserved
statements::act_with-loop-place-preserved = statements.act_with-loop-place-preserved

pub statements::act_with-returns : goal.statements::act_with-returns
statements::act_with-returns = statements.act_with-returns

pub loops::count-returns-in_err-x : goal.loops::count-returns-in_err-x
loops::count-returns-in_err-x = turns.count-returns-in_err-x

pub loops::count-returns-in_err-y : goal.loops::count-returns-in_err-y
loops::count-returns-in_err-y = turns.count-returns-in_err-y

pub loops::count-returns-then-is_past : goal.loops::count-returns-then-is_past
loops::count-returns-then-is_past = turns.count-returns-then-is_past

pub loops::count-returns-in_err-begin_turns : goal.loops::count-returns-in_err-begin_turns
loops::count-returns-in_err-begin_turns = turns.count-returns-in_err-begin_turns

pub loops::count-returns : goal.loops::count-returns
loops::count-returns = turns.count-returns

pub loops::repeat_while-returns-in_err-evaluate_truth : goal.loops::repeat_while-returns-in_err-evaluate_truth
loops::repeat_while-returns-in_err-evaluate_truth = turns.repeat_while-returns-in_err-evaluate_truth

pub loops::repeat_while-returns-in_err-act : goal.loops::repeat_while-returns-in_err-act
loops::repeat_while-returns-in_err-act = turns.repeat_while-returns-in_err-act

pub loops::repeat_while-returns-then-left-eq0 : goal.loops::repeat_while-returns-then-left-eq0
loops::repeat_while-returns-then-left-eq0 = turns.repeat_while-returns-then-left-eq0

pub loops::repeat_while-loop-world-preserved : goal.loops::repeat_while-loop-world-preserved
loops::repeat_while-loop-world-preserved = turns.repeat_while-loop-world-preserved

pub loops::repeat_until-returns-in_err-act_all : goal.loops::repeat_until-returns-in_err-act_all
loops::repeat_until-returns-in_err-act_all = turns.repeat_until-returns-in_err-act_all

pub loops::repeat_until-returns-in_err-evaluate_truth : goal.loops::repeat_until-returns-in_err-evaluate_truth
loops::repeat_until-returns-in_err-evaluate_truth = turns.repeat_until-returns-in_err-evaluate_truth

pub loops::repeat_until-returns-then-left-eq0 : goal.loops::repeat_until-returns-then-left-eq0
loops::repeat_until-returns-then-left-eq0 = turns.repeat_until-returns-then-left-eq0

pub loops::repeat_until-loop-world-preserved : goal.loops::repeat_until-loop-world-preserved
loops::repeat_until-loop-world-preserved = turns.repeat_until-loop-world-preserved

pub loops::turns-returns-in_err-act : goal.loops::turns-returns-in_err-act
loops::turns-returns-in_err-act = turns.turns-returns-in_err-act

pub loops::turns-returns-then-left-eq0 : goal.loops::turns-returns-then-left-eq0
loops::turns-returns-then-left-eq0 = turns.turns-returns-then-left-eq0

pub loops::turns-returns-then-not-branch : goal.loops::turns-returns-then-not-branch
loops::turns-returns-then-not-branch = turns.turns-returns-then-not-branch

pub loops::turns-loop-world-preserved : goal.loops::turns-loop-world-preserved
loops::turns-loop-world-preserved = turns.turns-loop-world-preserved

pub expressions::combine_all-returns-in_err-tests : goal.expressions::combine_all-returns-in_err-tests
expressions::combine_all-returns-in_err-tests = expressions.combine_all-returns-in_err-tests

pub expressions::combine_all-returns-in_err-more : goal.expressions::combine_all-returns-in_err-more
expressions::combine_all-returns-in_err-more = expressions.combine_all-returns-in_err-more

pub expressions::combine_all-loop-step-init : goal.expressions::combine_all-loop-step-init
expressions::combine_all-loop-step-init = expressions.combine_all-loop-step-init

pub expressions::combine_all-loop-step-preserved : goal.expressions::combine_all-loop-step-preserved
expressions::combine_all-loop-step-preserved = expressions.combine_all-loop-step-preserved

pub expressions::combine_all-returns : goal.expressions::combine_all-returns
expressions::combine_all-returns = expressions.combine_all-returns

pub operations::calculate-returns-in_err-x : goal.operations::calculate-returns-in_err-x
operations::calculate-returns-in_err-x = operations.calculate-returns-in_err-x

pub operations::calculate-returns-in_err-y : goal.operations::calculate-returns-in_err-y
operations::calculate-returns-in_err-y = operations.calculate-returns-in_err-y

pub operations::calculate-returns-in_err-x-2 : goal.operations::calculate-returns-in_err-x-2
operations::calculate-returns-in_err-x-2 = operations.calculate-returns-in_err-x-2

pub operations::calculate-loop-step-init : goal.operations::calculate-loop-step-init
operations::calculate-loop-step-init = operations.calculate-loop-step-init

pub operations::calculate-loop-step-preserved : goal.operations::calculate-loop-step-preserved
operations::calculate-loop-step-preserved = operations.calculate-loop-step-preserved

pub operations::calculate-returns : goal.operations::calculate-returns
operations::calculate-returns = operations.calculate-returns

pub operations::combine-returns-in_err-x : goal.operations::combine-returns-in_err-x
operations::combine-returns-in_err-x = operations.combine-returns-in_err-x

pub operations::combine-returns-in_err-y : goal.operations::combine-returns-in_err-y
operations::combine-returns-in_err-y = operations.combine-returns-in_err-y

pub operations::combine-loop-operand-init : goal.operations::combine-loop-operand-init
operations::combine-loop-operand-init = operations.combine-loop-operand-init

pub operations::combine-loop-operand-preserved : goal.operations::combine-loop-operand-preserved
operations::combine-loop-operand-preserved = operations.combine-loop-operand-preserved

pub operations::combine-returns : goal.operations::combine-returns
operations::combine-returns = operations.combine-returns

pub expressions::take_operand-returns-in_err-access-in-Contents
    : goal.expressions::take_operand-returns-in_err-access-in-Contents
expressions::take_operand-returns-in_err-access-in-Contents = calls.take_operand-returns-in_err-access-in-Contents

pub expressions::take_operand-returns-in_ok-access-in-Contents
    : goal.expressions::take_operand-returns-in_ok-access-in-Contents
expressions::take_operand-returns-in_ok-access-in-Contents = calls.take_operand-returns-in_ok-access-in-Contents

pub choices::act_if-returns-in_err-x : goal.choices::act_if-returns-in_err-x
choices::act_if-returns-in_err-x = statements.act_if-returns-in_err-x

pub choices::act_if-returns-then-is_true : goal.choices::act_if-returns-then-is_true
choices::act_if-returns-then-is_true t c = grind (arith, runs_deeper)

pub choices::act_if_else-returns-in_err-x : goal.choices::act_if_else-returns-in_err-x
choices::act_if_else-returns-in_err-x = statements.act_if_else-returns-in_err-x

pub choices::act_if_else-returns-then-is_true : goal.choices::act_if_else-returns-then-is_true
choices::act_if_else-returns-then-is_true t c = grind (arith, runs_deeper)

pub choices::act_if_else-returns : goal.choices::act_if_else-returns
choices::act_if_else-returns t c = grind (arith, runs_deeper)

pub expressions::evaluate_member-returns-in_err-evaluate-in-One
    : goal.expressions::evaluate_member-returns-in_err-evaluate-in-One
expressions::evaluate_member-returns-in_err-evaluate-in-One = expressions.evaluate_member-returns-in_err-evaluate-in-One

pub expressions::evaluate_member-returns-in_err-evaluate-in-Range
    : goal.expressions::evaluate_member-returns-in_err-evaluate-in-Range
expressions::evaluate_member-returns-in_err-evaluate-in-Range =
    expressions.evaluate_member-returns-in_err-evaluate-in-Range

pub expressions::evaluate_member-returns-in_err-evaluate-in-Range-2
    : goal.expressions::evaluate_member-returns-in_err-evaluate-in-Range-2
expressions::evaluate_member-returns-in_err-evaluate-in-Range-2 =
    expressions.evaluate_member-returns-in_err-evaluate-in-Range-2

pub expressions::evaluate_member-returns-in_ok-evaluate-in-One
    : goal.expressions::evaluate_member-returns-in_ok-evaluate-in-One
expressions::evaluate_member-returns-in_ok-evaluate-in-One = expressions.evaluate_member-returns-in_ok-evaluate-in-One

pub expressions::evaluate_truth-returns-in_err-x : goal.expressions::evaluate_truth-returns-in_err-x
expressions::evaluate_truth-returns-in_err-x = expressions.evaluate_truth-returns-in_err-x

pub expressions::select-returns-in_err-evaluate-in-Element : goal.expressions::select-returns-in_err-evaluate-in-Element
expressions::select-returns-in_err-evaluate-in-Element = expressions.select-returns-in_err-evaluate-in-Element

pub expressions::select-returns-in-Target : goal.expressions::select-returns-in-Target
expressions::select-returns-in-Target = expressions.select-returns-in-Target

pub expressions::take_actual-returns-in-Formal : goal.expressions::take_actual-returns-in-Formal
expressions::take_actual-returns-in-Formal = calls.take_actual-returns-in-Formal

pub expressions::take_actual-returns-in-Routine : goal.expressions::take_actual-returns-in-Routine
expressions::take_actual-returns-in-Routine = calls.take_actual-returns-in-Routine

pub expressions::take_actual-returns-in_err-access-in-Variable
    : goal.expressions::take_actual-returns-in_err-access-in-Variable
expressions::take_actual-returns-in_err-access-in-Variable = calls.take_actual-returns-in_err-access-in-Variable

pub expressions::take_actual-returns-in_ok-access-in-Variable
    : goal.expressions::take_actual-returns-in_ok-access-in-Variable
expressions::take_actual-returns-in_ok-access-in-Variable = calls.take_actual-returns-in_ok-access-in-Variable

pub expressions::take_actual-returns-in_ok-held-in-Copy : goal.expressions::take_actual-returns-in_ok-held-in-Copy
expressions::take_actual-returns-in_ok-held-in-Copy = calls.take_actual-returns-in_ok-held-in-Copy

pub expressions::take_actual-returns-in_ok-x-in-Value : goal.expressions::take_actual-returns-in_ok-x-in-Value
expressions::take_actual-returns-in_ok-x-in-Value = calls.take_actual-returns-in_ok-x-in-Value

pub expressions::take_actual-returns-in_ok-s-in-Set : goal.expressions::take_actual-returns-in_ok-s-in-Set
expressions::take_actual-returns-in_ok-s-in-Set = calls.take_actual-returns-in_ok-s-in-Set

pub expressions::take_actual-returns-in_err-held-in-Copy : goal.expressions::take_actual-returns-in_err-held-in-Copy
expressions::take_actual-returns-in_err-held-in-Copy = calls.take_actual-returns-in_err-held-in-Copy

pub expressions::take_actual-returns-in_err-s-in-Set : goal.expressions::take_actual-returns-in_err-s-in-Set
expressions::take_actual-returns-in_err-s-in-Set = calls.take_actual-returns-in_err-s-in-Set

pub expressions::take_actual-returns-in_err-x-in-Value : goal.expressions::take_actual-returns-in_err-x-in-Value
expressions::take_actual-returns-in_err-x-in-Value = calls.take_actual-returns-in_err-x-in-Value

pub operations::compare-returns-in_err-x : goal.operations::compare-returns-in_err-x
operations::compare-returns-in_err-x = operations.compare-returns-in_err-x

pub operations::compare-returns-in_err-y : goal.operations::compare-returns-in_err-y
operations::compare-returns-in_err-y = operations.compare-returns-in_err-y

pub operations::compare_sets-returns-in_err-x : goal.operations::compare_sets-returns-in_err-x
operations::compare_sets-returns-in_err-x = operations.compare_sets-returns-in_err-x

pub operations::compare_sets-returns-in_err-y : goal.operations::compare_sets-returns-in_err-y
operations::compare_sets-returns-in_err-y = operations.compare_sets-returns-in_err-y

pub operations::compare_strings-returns-in_err-x : goal.operations::compare_strings-returns-in_err-x
operations::compare_strings-returns-in_err-x = operations.compare_strings-returns-in_err-x

pub operations::compare_strings-returns-in_err-y : goal.operations::compare_strings-returns-in_err-y
operations::compare_strings-returns-in_err-y = operations.compare_strings-returns-in_err-y

pub operations::compare_strings-returns : goal.operations::compare_strings-returns
operations::compare_strings-returns = operations.compare_strings-returns

pub operations::test_member-returns-in_err-evaluate : goal.operations::test_member-returns-in_err-evaluate
operations::test_member-returns-in_err-evaluate = operations.test_member-returns-in_err-evaluate

pub operations::test_member-returns-in_err-s : goal.operations::test_member-returns-in_err-s
operations::test_member-returns-in_err-s = operations.test_member-returns-in_err-s

pub statements::assign-returns-in_err-spot : goal.statements::assign-returns-in_err-spot
statements::assign-returns-in_err-spot = statements.assign-returns-in_err-spot

pub statements::assign-returns-in_err-x : goal.statements::assign-returns-in_err-x
statements::assign-returns-in_err-x = statements.assign-returns-in_err-x

pub statements::assign-returns : goal.statements::assign-returns
statements::assign-returns = statements.assign-returns

pub statements::assign_set-returns-in_err-spot : goal.statements::assign_set-returns-in_err-spot
statements::assign_set-returns-in_err-spot = statements.assign_set-returns-in_err-spot

pub statements::assign_set-returns-in_err-x : goal.statements::assign_set-returns-in_err-x
statements::assign_set-returns-in_err-x = statements.assign_set-returns-in_err-x

pub statements::assign_set-returns : goal.statements::assign_set-returns
statements::assign_set-returns t c = grind (arith, answers_run)

pub statements::assign_structure-returns-in_err-spot : goal.statements::assign_structure-returns-in_err-spot
statements::assign_structure-returns-in_err-spot = statements.assign_structure-returns-in_err-spot

pub statements::assign_structure-returns-in_err-held : goal.statements::assign_structure-returns-in_err-held
statements::assign_structure-returns-in_err-held = statements.assign_structure-returns-in_err-held

pub statements::assign_structure-returns : goal.statements::assign_structure-returns
statements::assign_structure-returns = statements.assign_structure-returns

pub statements::pack-returns-in_err-a : goal.statements::pack-returns-in_err-a
statements::pack-returns-in_err-a = statements.pack-returns-in_err-a

pub statements::pack-returns-in_err-evaluate : goal.statements::pack-returns-in_err-evaluate
statements::pack-returns-in_err-evaluate = statements.pack-returns-in_err-evaluate

pub statements::pack-returns-in_err-z : goal.statements::pack-returns-in_err-z
statements::pack-returns-in_err-z t c = grind (arith, halted_then)

pub statements::unpack-returns-in_err-z : goal.statements::unpack-returns-in_err-z
statements::unpack-returns-in_err-z = statements.unpack-returns-in_err-z

pub statements::unpack-returns-in_err-a : goal.statements::unpack-returns-in_err-a
statements::unpack-returns-in_err-a = statements.unpack-returns-in_err-a

pub statements::unpack-returns-in_err-evaluate : goal.statements::unpack-returns-in_err-evaluate
statements::unpack-returns-in_err-evaluate = statements.unpack-returns-in_err-evaluate

pub transfers::evaluate_width-returns-in_err-evaluate-in-Given
    : goal.transfers::evaluate_width-returns-in_err-evaluate-in-Given
transfers::evaluate_width-returns-in_err-evaluate-in-Given = transfers.evaluate_width-returns-in_err-evaluate-in-Given

pub transfers::evaluate_width-returns-in_ok-evaluate-in-Given
    : goal.transfers::evaluate_width-returns-in_ok-evaluate-in-Given
transfers::evaluate_width-returns-in_ok-evaluate-in-Given = transfers.evaluate_width-returns-in_ok-evaluate-in-Given

pub transfers::write_contents-returns-in_err-held : goal.transfers::write_contents-returns-in_err-held
transfers::write_contents-returns-in_err-held = transfers.write_contents-returns-in_err-held

pub transfers::write_contents-returns-in_err-n : goal.transfers::write_contents-returns-in_err-n
transfers::write_contents-returns-in_err-n = transfers.write_contents-returns-in_err-n

pub transfers::write_contents-returns : goal.transfers::write_contents-returns
transfers::write_contents-returns t c = grind (arith, answers_run)

pub transfers::write_evaluated-returns-in_err-x : goal.transfers::write_evaluated-returns-in_err-x
transfers::write_evaluated-returns-in_err-x = transfers.write_evaluated-returns-in_err-x

pub transfers::write_evaluated-returns-in_err-n : goal.transfers::write_evaluated-returns-in_err-n
transfers::write_evaluated-returns-in_err-n = transfers.write_evaluated-returns-in_err-n

pub transfers::write_evaluated-returns : goal.transfers::write_evaluated-returns
transfers::write_evaluated-returns = transfers.write_evaluated-returns

pub transfers::write_one-returns-in-Integer : goal.transfers::write_one-returns-in-Integer
transfers::write_one-returns-in-Integer = transfers.write_one-returns-in-Integer

pub transfers::write_one-returns-in-Char : goal.transfers::write_one-returns-in-Char
transfers::write_one-returns-in-Char = transfers.write_one-returns-in-Char

pub transfers::write_one-returns-in-Boolean : goal.transfers::write_one-returns-in-Boolean
transfers::write_one-returns-in-Boolean = transfers.write_one-returns-in-Boolean

pub transfers::write_one-returns-in-Text : goal.transfers::write_one-returns-in-Text
transfers::write_one-returns-in-Text = transfers.write_one-returns-in-Text

pub statements::pack-returns-in_err-k : goal.statements::pack-returns-in_err-k
statements::pack-returns-in_err-k = statements.pack-returns-in_err-k

pub statements::pack-returns : goal.statements::pack-returns
statements::pack-returns = statements.pack-returns

pub statements::unpack-returns-in_err-k : goal.statements::unpack-returns-in_err-k
statements::unpack-returns-in_err-k = statements.unpack-returns-in_err-k

pub statements::unpack-returns : goal.statements::unpack-returns
statements::unpack-returns = statements.unpack-returns

pub statements::act-returns-in-For : goal.statements::act-returns-in-For
statements::act-returns-in-For = statements.act-returns-in-For

pub expressions::evaluate_member-returns-in_ok-evaluate-in-Range-2
    : goal.expressions::evaluate_member-returns-in_ok-evaluate-in-Range-2
expressions::evaluate_member-returns-in_ok-evaluate-in-Range-2 =
    expressions.evaluate_member-returns-in_ok-evaluate-in-Range-2

pub expressions::select-returns-in_ok-evaluate-in-Element
    : goal.expressions::select-returns-in_ok-evaluate-in-Element
expressions::select-returns-in_ok-evaluate-in-Element = expressions.select-returns-in_ok-evaluate-in-Element

pub calls::call_procedure-take_actuals-requires : goal.calls::call_procedure-take_actuals-requires
calls::call_procedure-take_actuals-requires = requires.calls::call_procedure-take_actuals-requires

pub calls::call_value-take_actuals-requires : goal.calls::call_value-take_actuals-requires
calls::call_value-take_actuals-requires = requires.calls::call_value-take_actuals-requires

pub choices::act_if-evaluate-requires : goal.choices::act_if-evaluate-requires
choices::act_if-evaluate-requires = requires.choices::act_if-evaluate-requires

pub choices::act_if-act-requires : goal.choices::act_if-act-requires
choices::act_if-act-requires = requires.choices::act_if-act-requires

pub choices::act_if_else-evaluate-requires : goal.choices::act_if_else-evaluate-requires
choices::act_if_else-evaluate-requires = requires.choices::act_if_else-evaluate-requires

pub choices::act_if_else-act-requires : goal.choices::act_if_else-act-requires
choices::act_if_else-act-requires = requires.choices::act_if_else-act-requires

pub choices::act_if_else-act-requires-else-is_true : goal.choices::act_if_else-act-requires-else-is_true
choices::act_if_else-act-requires-else-is_true = requires.choices::act_if_else-act-requires-else-is_true

pub choices::choose-evaluate-requires : goal.choices::choose-evaluate-requires
choices::choose-evaluate-requires = requires.choices::choose-evaluate-requires

pub choices::choose-act-requires : goal.choices::choose-act-requires
choices::choose-act-requires = requires.choices::choose-act-requires

pub expressions::access-select-requires : goal.expressions::access-select-requires
expressions::access-select-requires = requires.expressions::access-select-requires

pub expressions::combine_all-evaluate_set-requires : goal.expressions::combine_all-evaluate_set-requires
expressions::combine_all-evaluate_set-requires = requires.expressions::combine_all-evaluate_set-requires

pub expressions::combine_all-evaluate_set-requires-in-loop-step
    : goal.expressions::combine_all-evaluate_set-requires-in-loop-step
expressions::combine_all-evaluate_set-requires-in-loop-step =
    requires.expressions::combine_all-evaluate_set-requires-in-loop-step

pub expressions::evaluate-access-requires : goal.expressions::evaluate-access-requires
expressions::evaluate-access-requires = requires.expressions::evaluate-access-requires

pub expressions::evaluate-evaluate-requires : goal.expressions::evaluate-evaluate-requires
expressions::evaluate-evaluate-requires = requires.expressions::evaluate-evaluate-requires

pub expressions::evaluate-evaluate-requires-in-Minus : goal.expressions::evaluate-evaluate-requires-in-Minus
expressions::evaluate-evaluate-requires-in-Minus = requires.expressions::evaluate-evaluate-requires-in-Minus

pub expressions::evaluate-evaluate-requires-in-Not : goal.expressions::evaluate-evaluate-requires-in-Not
expressions::evaluate-evaluate-requires-in-Not = requires.expressions::evaluate-evaluate-requires-in-Not

pub expressions::evaluate-calculate-requires : goal.expressions::evaluate-calculate-requires
expressions::evaluate-calculate-requires = requires.expressions::evaluate-calculate-requires

pub expressions::evaluate-combine-requires : goal.expressions::evaluate-combine-requires
expressions::evaluate-combine-requires = requires.expressions::evaluate-combine-requires

pub expressions::evaluate-compare-requires : goal.expressions::evaluate-compare-requires
expressions::evaluate-compare-requires = requires.expressions::evaluate-compare-requires

pub expressions::evaluate-compare-requires-in-ComparePointers
    : goal.expressions::evaluate-compare-requires-in-ComparePointers
expressions::evaluate-compare-requires-in-ComparePointers =
    requires.expressions::evaluate-compare-requires-in-ComparePointers

pub expressions::evaluate-compare_sets-requires : goal.expressions::evaluate-compare_sets-requires
expressions::evaluate-compare_sets-requires = requires.expressions::evaluate-compare_sets-requires

pub expressions::evaluate-compare_strings-requires : goal.expressions::evaluate-compare_strings-requires
expressions::evaluate-compare_strings-requires = requires.expressions::evaluate-compare_strings-requires

pub expressions::evaluate-test_member-requires : goal.expressions::evaluate-test_member-requires
expressions::evaluate-test_member-requires = requires.expressions::evaluate-test_member-requires

pub expressions::evaluate-evaluate-requires-in-Apply : goal.expressions::evaluate-evaluate-requires-in-Apply
expressions::evaluate-evaluate-requires-in-Apply = requires.expressions::evaluate-evaluate-requires-in-Apply

pub expressions::evaluate-call_value-requires : goal.expressions::evaluate-call_value-requires
expressions::evaluate-call_value-requires = requires.expressions::evaluate-call_value-requires

pub expressions::evaluate-call_value-requires-in-CallFormal
    : goal.expressions::evaluate-call_value-requires-in-CallFormal
expressions::evaluate-call_value-requires-in-CallFormal =
    requires.expressions::evaluate-call_value-requires-in-CallFormal

pub expressions::evaluate_member-evaluate-requires : goal.expressions::evaluate_member-evaluate-requires
expressions::evaluate_member-evaluate-requires = requires.expressions::evaluate_member-evaluate-requires

pub expressions::evaluate_member-evaluate-requires-in-Range
    : goal.expressions::evaluate_member-evaluate-requires-in-Range
expressions::evaluate_member-evaluate-requires-in-Range =
    requires.expressions::evaluate_member-evaluate-requires-in-Range

pub expressions::evaluate_member-evaluate-requires-in-Range-2
    : goal.expressions::evaluate_member-evaluate-requires-in-Range-2
expressions::evaluate_member-evaluate-requires-in-Range-2 =
    requires.expressions::evaluate_member-evaluate-requires-in-Range-2

pub expressions::evaluate_members-evaluate_member-requires : goal.expressions::evaluate_members-evaluate_member-requires
expressions::evaluate_members-evaluate_member-requires = requires.expressions::evaluate_members-evaluate_member-requires

pub expressions::evaluate_set-access-requires : goal.expressions::evaluate_set-access-requires
expressions::evaluate_set-access-requires = requires.expressions::evaluate_set-access-requires

pub expressions::evaluate_set-evaluate_members-requires : goal.expressions::evaluate_set-evaluate_members-requires
expressions::evaluate_set-evaluate_members-requires = requires.expressions::evaluate_set-evaluate_members-requires

pub expressions::evaluate_set-combine_all-requires : goal.expressions::evaluate_set-combine_all-requires
expressions::evaluate_set-combine_all-requires = requires.expressions::evaluate_set-combine_all-requires

pub expressions::evaluate_truth-evaluate-requires : goal.expressions::evaluate_truth-evaluate-requires
expressions::evaluate_truth-evaluate-requires = requires.expressions::evaluate_truth-evaluate-requires

pub expressions::select-evaluate-requires : goal.expressions::select-evaluate-requires
expressions::select-evaluate-requires = requires.expressions::select-evaluate-requires

pub expressions::take_actual-evaluate-requires : goal.expressions::take_actual-evaluate-requires
expressions::take_actual-evaluate-requires = requires.expressions::take_actual-evaluate-requires

pub expressions::take_actual-evaluate_set-requires : goal.expressions::take_actual-evaluate_set-requires
expressions::take_actual-evaluate_set-requires = requires.expressions::take_actual-evaluate_set-requires

pub expressions::take_actual-take_operand-requires : goal.expressions::take_actual-take_operand-requires
expressions::take_actual-take_operand-requires = requires.expressions::take_actual-take_operand-requires

pub expressions::take_actual-access-requires : goal.expressions::take_actual-access-requires
expressions::take_actual-access-requires = requires.expressions::take_actual-access-requires

pub expressions::take_actuals-take_actual-requires : goal.expressions::take_actuals-take_actual-requires
expressions::take_actuals-take_actual-requires = requires.expressions::take_actuals-take_actual-requires

pub expressions::take_operand-access-requires : goal.expressions::take_operand-access-requires
expressions::take_operand-access-requires = requires.expressions::take_operand-access-requires

pub loops::count-evaluate-requires : goal.loops::count-evaluate-requires
loops::count-evaluate-requires = requires.loops::count-evaluate-requires

pub loops::count-evaluate-requires-2 : goal.loops::count-evaluate-requires-2
loops::count-evaluate-requires-2 = requires.loops::count-evaluate-requires-2

pub loops::count-turns-requires : goal.loops::count-turns-requires
loops::count-turns-requires = requires.loops::count-turns-requires

pub loops::repeat_until-act_all-requires : goal.loops::repeat_until-act_all-requires
loops::repeat_until-act_all-requires = requires.loops::repeat_until-act_all-requires

pub loops::repeat_until-evaluate_truth-requires : goal.loops::repeat_until-evaluate_truth-requires
loops::repeat_until-evaluate_truth-requires = requires.loops::repeat_until-evaluate_truth-requires

pub loops::repeat_while-evaluate_truth-requires : goal.loops::repeat_while-evaluate_truth-requires
loops::repeat_while-evaluate_truth-requires = requires.loops::repeat_while-evaluate_truth-requires

pub loops::repeat_while-act-requires : goal.loops::repeat_while-act-requires
loops::repeat_while-act-requires = requires.loops::repeat_while-act-requires

pub loops::turns-act-requires : goal.loops::turns-act-requires
loops::turns-act-requires = requires.loops::turns-act-requires

pub operations::calculate-evaluate-requires : goal.operations::calculate-evaluate-requires
operations::calculate-evaluate-requires = requires.operations::calculate-evaluate-requires

pub operations::calculate-evaluate-requires-in-loop-step : goal.operations::calculate-evaluate-requires-in-loop-step
operations::calculate-evaluate-requires-in-loop-step = requires.operations::calculate-evaluate-requires-in-loop-step

pub operations::combine-evaluate_truth-requires : goal.operations::combine-evaluate_truth-requires
operations::combine-evaluate_truth-requires = requires.operations::combine-evaluate_truth-requires

pub operations::combine-evaluate_truth-requires-in-loop-operand
    : goal.operations::combine-evaluate_truth-requires-in-loop-operand
operations::combine-evaluate_truth-requires-in-loop-operand =
    requires.operations::combine-evaluate_truth-requires-in-loop-operand

pub operations::compare-evaluate-requires : goal.operations::compare-evaluate-requires
operations::compare-evaluate-requires = requires.operations::compare-evaluate-requires

pub operations::compare-evaluate-requires-2 : goal.operations::compare-evaluate-requires-2
operations::compare-evaluate-requires-2 = requires.operations::compare-evaluate-requires-2

pub operations::compare_sets-evaluate_set-requires : goal.operations::compare_sets-evaluate_set-requires
operations::compare_sets-evaluate_set-requires = requires.operations::compare_sets-evaluate_set-requires

pub operations::compare_sets-evaluate_set-requires-2 : goal.operations::compare_sets-evaluate_set-requires-2
operations::compare_sets-evaluate_set-requires-2 = requires.operations::compare_sets-evaluate_set-requires-2

pub operations::compare_strings-take_operand-requires : goal.operations::compare_strings-take_operand-requires
operations::compare_strings-take_operand-requires = requires.operations::compare_strings-take_operand-requires

pub operations::compare_strings-take_operand-requires-2 : goal.operations::compare_strings-take_operand-requires-2
operations::compare_strings-take_operand-requires-2 = requires.operations::compare_strings-take_operand-requires-2

pub operations::test_member-evaluate-requires : goal.operations::test_member-evaluate-requires
operations::test_member-evaluate-requires = requires.operations::test_member-evaluate-requires

pub operations::test_member-evaluate_set-requires : goal.operations::test_member-evaluate_set-requires
operations::test_member-evaluate_set-requires = requires.operations::test_member-evaluate_set-requires

pub statements::act-assign-requires : goal.statements::act-assign-requires
statements::act-assign-requires = requires.statements::act-assign-requires

pub statements::act-assign_set-requires : goal.statements::act-assign_set-requires
statements::act-assign_set-requires = requires.statements::act-assign_set-requires

pub statements::act-assign_structure-requires : goal.statements::act-assign_structure-requires
statements::act-assign_structure-requires = requires.statements::act-assign_structure-requires

pub statements::act-call_procedure-requires : goal.statements::act-call_procedure-requires
statements::act-call_procedure-requires = requires.statements::act-call_procedure-requires

pub statements::act-call_procedure-requires-in-CallFormal : goal.statements::act-call_procedure-requires-in-CallFormal
statements::act-call_procedure-requires-in-CallFormal = requires.statements::act-call_procedure-requires-in-CallFormal

pub statements::act-act_all-requires : goal.statements::act-act_all-requires
statements::act-act_all-requires = requires.statements::act-act_all-requires

pub statements::act-act_if-requires : goal.statements::act-act_if-requires
statements::act-act_if-requires = requires.statements::act-act_if-requires

pub statements::act-act_if_else-requires : goal.statements::act-act_if_else-requires
statements::act-act_if_else-requires = requires.statements::act-act_if_else-requires

pub statements::act-choose-requires : goal.statements::act-choose-requires
statements::act-choose-requires = requires.statements::act-choose-requires

pub statements::act-repeat_while-requires : goal.statements::act-repeat_while-requires
statements::act-repeat_while-requires = requires.statements::act-repeat_while-requires

pub statements::act-repeat_until-requires : goal.statements::act-repeat_until-requires
statements::act-repeat_until-requires = requires.statements::act-repeat_until-requires

pub statements::act-count-requires : goal.statements::act-count-requires
statements::act-count-requires = requires.statements::act-count-requires

pub statements::act-act_with-requires : goal.statements::act-act_with-requires
statements::act-act_with-requires = requires.statements::act-act_with-requires

pub statements::act-access-requires : goal.statements::act-access-requires
statements::act-access-requires = requires.statements::act-access-requires

pub statements::act-pack-requires : goal.statements::act-pack-requires
statements::act-pack-requires = requires.statements::act-pack-requires

pub statements::act-unpack-requires : goal.statements::act-unpack-requires
statements::act-unpack-requires = requires.statements::act-unpack-requires

pub statements::act-read_all-requires : goal.statements::act-read_all-requires
statements::act-read_all-requires = requires.statements::act-read_all-requires

pub statements::act-read_all-requires-in-Readln : goal.statements::act-read_all-requires-in-Readln
statements::act-read_all-requires-in-Readln = requires.statements::act-read_all-requires-in-Readln

pub statements::act-write_all-requires : goal.statements::act-write_all-requires
statements::act-write_all-requires = requires.statements::act-write_all-requires

pub statements::act-write_all-requires-in-Writeln : goal.statements::act-write_all-requires-in-Writeln
statements::act-write_all-requires-in-Writeln = requires.statements::act-write_all-requires-in-Writeln

pub statements::act_all-act-requires : goal.statements::act_all-act-requires
statements::act_all-act-requires = requires.statements::act_all-act-requires

pub statements::act_with-access-requires : goal.statements::act_with-access-requires
statements::act_with-access-requires = requires.statements::act_with-access-requires

pub statements::act_with-act-requires : goal.statements::act_with-act-requires
statements::act_with-act-requires = requires.statements::act_with-act-requires

pub statements::assign-access-requires : goal.statements::assign-access-requires
statements::assign-access-requires = requires.statements::assign-access-requires

pub statements::assign-evaluate-requires : goal.statements::assign-evaluate-requires
statements::assign-evaluate-requires = requires.statements::assign-evaluate-requires

pub statements::assign_set-access-requires : goal.statements::assign_set-access-requires
statements::assign_set-access-requires = requires.statements::assign_set-access-requires

pub statements::assign_set-evaluate_set-requires : goal.statements::assign_set-evaluate_set-requires
statements::assign_set-evaluate_set-requires = requires.statements::assign_set-evaluate_set-requires

pub statements::assign_structure-access-requires : goal.statements::assign_structure-access-requires
statements::assign_structure-access-requires = requires.statements::assign_structure-access-requires

pub statements::assign_structure-take_operand-requires : goal.statements::assign_structure-take_operand-requires
statements::assign_structure-take_operand-requires = requires.statements::assign_structure-take_operand-requires

pub statements::pack-access-requires : goal.statements::pack-access-requires
statements::pack-access-requires = requires.statements::pack-access-requires

pub statements::pack-evaluate-requires : goal.statements::pack-evaluate-requires
statements::pack-evaluate-requires = requires.statements::pack-evaluate-requires

pub statements::pack-access-requires-2 : goal.statements::pack-access-requires-2
statements::pack-access-requires-2 = requires.statements::pack-access-requires-2

pub statements::unpack-access-requires : goal.statements::unpack-access-requires
statements::unpack-access-requires = requires.statements::unpack-access-requires

pub statements::unpack-access-requires-2 : goal.statements::unpack-access-requires-2
statements::unpack-access-requires-2 = requires.statements::unpack-access-requires-2

pub statements::unpack-evaluate-requires : goal.statements::unpack-evaluate-requires
statements::unpack-evaluate-requires = requires.statements::unpack-evaluate-requires

pub transfers::evaluate_width-evaluate-requires : goal.transfers::evaluate_width-evaluate-requires
transfers::evaluate_width-evaluate-requires = requires.transfers::evaluate_width-evaluate-requires

pub transfers::read_all-access-requires : goal.transfers::read_all-access-requires
transfers::read_all-access-requires = requires.transfers::read_all-access-requires

pub transfers::write_all-write_one-requires : goal.transfers::write_all-write_one-requires
transfers::write_all-write_one-requires = requires.transfers::write_all-write_one-requires

pub transfers::write_contents-take_operand-requires : goal.transfers::write_contents-take_operand-requires
transfers::write_contents-take_operand-requires = requires.transfers::write_contents-take_operand-requires

pub transfers::write_contents-evaluate_width-requires : goal.transfers::write_contents-evaluate_width-requires
transfers::write_contents-evaluate_width-requires = requires.transfers::write_contents-evaluate_width-requires

pub transfers::write_evaluated-evaluate-requires : goal.transfers::write_evaluated-evaluate-requires
transfers::write_evaluated-evaluate-requires = requires.transfers::write_evaluated-evaluate-requires

pub transfers::write_evaluated-evaluate_width-requires : goal.transfers::write_evaluated-evaluate_width-requires
transfers::write_evaluated-evaluate_width-requires = requires.transfers::write_evaluated-evaluate_width-requires

pub transfers::write_one-write_evaluated-requires : goal.transfers::write_one-write_evaluated-requires
transfers::write_one-write_evaluated-requires = requires.transfers::write_one-write_evaluated-requires

pub transfers::write_one-write_evaluated-requires-in-Char : goal.transfers::write_one-write_evaluated-requires-in-Char
transfers::write_one-write_evaluated-requires-in-Char = requires.transfers::write_one-write_evaluated-requires-in-Char

pub transfers::write_one-write_evaluated-requires-in-Boolean
    : goal.transfers::write_one-write_evaluated-requires-in-Boolean
transfers::write_one-write_evaluated-requires-in-Boolean =
    requires.transfers::write_one-write_evaluated-requires-in-Boolean

pub transfers::write_one-write_contents-requires : goal.transfers::write_one-write_contents-requires
transfers::write_one-write_contents-requires = requires.transfers::write_one-write_contents-requires
