-- The lines that were told, with those of the frames that are left, are the walk's.
use Rattle.std.proofs.Common.{◌≡◌, suc, ◌+◌, ◌-◌, ◌∷◌, [], length, rules, arith, refl, ap, ◌∙◌, length-append}
use Rattle.risc_machine.specs.Step.{reg, word_at}
use Rattle.risc_emit_laws.specs.Outcome.{line_of}
use Rattle.risc_emit_trail.proofs.Frames.{walk_begins, walk_goes_on, walk_ends, walk_is_full}
use Rattle.risc_emit_trail.proofs.walk.walked.Goals as goal

pub loop-init : goal.loop-init
loop-init c = (
  ap length c.new-trail.ensures,
  λ n e. walk_begins (line_of c.args.image.now)
      (length c.args.machine.now.memory) (word_at c.args.machine.now.memory) n c.args.most
      (reg c.args.machine.now 14) c.reg-frame.result c.new-trail.result c.new-trail.ensures c.reg-frame.ensures
      (omega (arith, e)),
)

pub returns-in_default : goal.returns-in_default
returns-in_default c =
    let n = c.args.most - c.loop.counter - 1 in
    let left : c.loop.counter + suc n ≡ c.args.most = omega (arith, c.loop-test.true) in
    walk_ends (line_of c.args.image.now) (length c.args.machine.now.memory)
    (word_at c.args.machine.now.memory) n c.loop.frame c.line_at.result c.loop.trail _ c.line_at.ensures.line
    (search (rules, c.in_default.is)) (c.loop.invariant.1 (suc n) left)

pub loop-preserved : goal.loop-preserved
loop-preserved c = (
  ap length c.push.ensures ∙ length-append c.loop.trail (c.in-Some.line ∷ []) ∙ ap (λ k. k + 1) c.loop.invariant.0,
  λ n e.
      let left : c.loop.counter + suc n ≡ c.args.most = omega (arith, e) in
      walk_goes_on (line_of c.args.image.now) (length c.args.machine.now.memory)
      (word_at c.args.machine.now.memory) n c.loop.frame c.in-Some.line c.word-frame.result c.line_at.result
      c.loop.trail c.push.new.self _ c.line_at.ensures.line c.in-Some.is c.push.ensures c.word-frame.ensures
      (c.loop.invariant.1 (suc n) left),
)

pub returns : goal.returns
returns c = walk_is_full (line_of c.args.image.now) (length c.args.machine.now.memory)
    (word_at c.args.machine.now.memory) 0 c.loop.frame c.loop.trail _ refl
    (c.loop.invariant.1 0 (omega (arith, c.loop-test.false, c.loop.auto.counter-end)))
