use Rattle.std.proofs.Common.{suc, ◌+◌, ◌*◌, ◌≡◌, refl, arith}
use Rattle.ps_lower.proofs.Bounding.{outside_start, outside_next, outside_end}
use Rattle.ps_lower.proofs.sets.outside.Goals as goal

pub loop-word-init : goal.loop-word-init
loop-word-init c = (omega arith, outside_start c.args.low.now c.args.high.now c.args.t c.args.x c.args.out.now)

pub loop-word-preserved : goal.loop-word-preserved
loop-word-preserved c = (
  let b = c.loop-word-test.true in omega (arith, b),
  outside_next c.args.low.now c.args.high.now c.args.t c.args.x c.loop-word.word (c.loop-word.word + 1)
      (c.args.x + 4 * c.loop-word.word) c.outside_bits.result _ _ _
      (let e : c.loop-word.word + 1 ≡ suc c.loop-word.word = omega arith in e) refl c.outside_bits.ensures
      c.loop-word.invariant.1 c.in_ok-joined_word.ensures,
)

pub returns : goal.returns
returns c =
    outside_end c.args.low.now c.args.high.now c.args.t c.args.x c.loop-word.word c.args.out.now _
    (let a = c.loop-word-test.false in let b = c.loop-word.invariant.0 in omega (arith, a, b))
    c.loop-word.invariant.1
