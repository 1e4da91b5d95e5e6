use Rattle.std.proofs.Common.{ap, ◌∙◌}
use Rattle.ps_tree.specs.View.{argument_of}
use Rattle.ps_lower_code.specs.Calling as code
use Rattle.ps_lower.proofs.Searches.{passed_start, passed_next, passed_found, passed_all}
use Rattle.ps_lower.proofs.Actuals.{calling_in, calling_none, calling_more}
use Rattle.ps_lower.proofs.calls.arguments_call.Goals as goal

pub loop-argument-init : goal.loop-argument-init
loop-argument-init c = passed_start calling_in _

pub loop-argument-preserved : goal.loop-argument-preserved
loop-argument-preserved c = passed_next calling_in
    (λ x. code.argument_calls (argument_of x)) calling_more _ _ _ c.argument-item.result c.loop-argument-test.true
    c.loop-argument.invariant (c.argument_calls.ensures
    ∙ ap (λ x. code.argument_calls (argument_of x)) c.argument-item.is) c.if-argument_calls.false

pub returns-then-argument_calls : goal.returns-then-argument_calls
returns-then-argument_calls c = passed_found calling_in
    (λ x. code.argument_calls (argument_of x)) calling_more _ _ _ c.argument-item.result c.loop-argument-test.true
    c.loop-argument.invariant (c.argument_calls.ensures
    ∙ ap (λ x. code.argument_calls (argument_of x)) c.argument-item.is) c.if-argument_calls.true

pub returns : goal.returns
returns c = passed_all calling_in calling_none _ _ c.loop-argument-test.false c.loop-argument.invariant
