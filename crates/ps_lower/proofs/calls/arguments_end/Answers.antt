use Rattle.std.proofs.Common.{ap, ◌∙◌, arith}
use Rattle.ps_tree.specs.View.{argument_of}
use Rattle.ps_lower_code.specs.Scopes.{held}
use Rattle.ps_lower_code.specs.Values.{argument_end}
use Rattle.ps_lower.specs.declared.depth.TheConstants.{MAX_NUMBER}
use Rattle.ps_lower.proofs.Actuals.{slot, ended_start, ended_next, ended_all}
use Rattle.ps_lower.proofs.Weighing.{ending_one}
use Rattle.ps_lower.proofs.calls.arguments_end.Goals as goal

pub loop-argument-init : goal.loop-argument-init
loop-argument-init c = ended_start _ _

pub loop-argument-preserved : goal.loop-argument-preserved
loop-argument-preserved c =
    ended_next _ _ _ _ _ _ _ c.argument-item.result c.loop-argument-test.true c.loop-argument.invariant
    c.tail-rest.ensures
    (c.argument_end-depth.ensures.value
    ∙ ap (λ n. argument_end (argument_of c.argument-item.result) n)
    (c.held.ensures.value ∙ ap (λ b. held b c.loop-argument.depth) c.arguments_call.ensures)
    ∙ ap (λ y. argument_end (argument_of y) (slot c.tail-rest.result.now c.loop-argument.depth)) c.argument-item.is)

pub returns : goal.returns
returns c = ended_all _ _ _ _ _ c.loop-argument-test.false c.loop-argument.invariant

pub held-requires : goal.held-requires
held-requires c =
    let e = c.loop-argument.invariant.left in
    let r = c.requires in
    let l = ending_one c.args.arguments.now c.loop-argument.argument-index c.loop-argument.depth MAX_NUMBER
    (omega (arith, e, r)) in
    omega (arith, l)

pub argument_end-depth-requires : goal.argument_end-depth-requires
argument_end-depth-requires c =
    let e = c.loop-argument.invariant.left in
    let r = c.requires in
    let h = c.held.ensures.small in
    let l = ending_one c.args.arguments.now c.loop-argument.argument-index c.loop-argument.depth MAX_NUMBER
    (omega (arith, e, r)) in
    omega (arith, l, h)
