use Rattle.std.proofs.Common.{◌++◌, ◌∷◌, [], ap, ◌∙◌, arith}
use Rattle.ps_tree.specs.View.{argument_of}
use Rattle.ps_lower_code.specs.Scopes.{held}
use Rattle.ps_lower_code.specs.Values.{argument_end, argument_words}
use Rattle.ps_lower.specs.declared.depth.TheConstants.{MAX_NUMBER}
use Rattle.ps_lower.proofs.Actuals.{slot, worded_start, worded_next, worded_all, ended_start, ended_next}
use Rattle.ps_lower.proofs.Weighing.{ending_one}
use Rattle.ps_lower.proofs.calls.words.Goals as goal

pub loop-argument-init : goal.loop-argument-init
loop-argument-init c = (
  worded_start (c.args.link ∷ []) c.args.arguments.now c.args.d c.push.new.self.items
      (c.in_ok-push.ensures.items ∙ ap (λ l. l ++ c.args.link ∷ []) c.new-list.ensures.items),
  ended_start c.args.arguments.now c.args.d,
)

pub loop-argument-preserved : goal.loop-argument-preserved
loop-argument-preserved c = (
  worded_next _ _ _ _ _ _ _ _ _ _ _ c.argument-item.result c.loop-argument-test.true c.loop-argument.invariant.0
      c.tail-rest.ensures
      (c.held-t.ensures.value ∙ ap (λ b. held b c.loop-argument.depth) c.arguments_call.ensures)
      (c.in_ok-add_words.ensures ∙ ap (λ y. c.loop-argument.list.items ++ argument_words
      (argument_of y) c.held-t.result) c.argument-item.is)
      (c.argument_end-depth.ensures.value ∙ ap (λ y. argument_end (argument_of y) c.held-t.result) c.argument-item.is),
  ended_next _ _ _ _ _ _ _ c.argument-item.result c.loop-argument-test.true c.loop-argument.invariant.1
      c.tail-rest.ensures
      (c.argument_end-depth.ensures.value
      ∙ ap (λ n. argument_end (argument_of c.argument-item.result) n)
      (c.held-t.ensures.value ∙ ap (λ b. held b c.loop-argument.depth) c.arguments_call.ensures)
      ∙ ap (λ y. argument_end (argument_of y) (slot c.tail-rest.result.now c.loop-argument.depth)) c.argument-item.is),
)

pub returns : goal.returns
returns c = worded_all _ _ _ _ _ _ _ c.loop-argument-test.false c.loop-argument.invariant.0

pub held-t-requires : goal.held-t-requires
held-t-requires c =
    let e = c.loop-argument.invariant.1.left in
    let r = c.requires in
    let l = ending_one c.args.arguments.now c.loop-argument.argument-index c.loop-argument.depth MAX_NUMBER
    (omega (arith, e, r)) in
    omega (arith, l)

pub add_words-requires : goal.add_words-requires
add_words-requires c =
    let e = c.loop-argument.invariant.1.left in
    let r = c.requires in
    let h = c.held-t.ensures.small in
    let l = ending_one c.args.arguments.now c.loop-argument.argument-index c.loop-argument.depth MAX_NUMBER
    (omega (arith, e, r)) in
    omega (arith, l, h)

pub argument_end-depth-requires : goal.argument_end-depth-requires
argument_end-depth-requires c =
    let e = c.loop-argument.invariant.1.left in
    let r = c.requires in
    let h = c.held-t.ensures.small in
    let l = ending_one c.args.arguments.now c.loop-argument.argument-index c.loop-argument.depth MAX_NUMBER
    (omega (arith, e, r)) in
    omega (arith, l, h)
