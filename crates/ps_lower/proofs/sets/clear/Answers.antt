use Rattle.std.proofs.Common.{suc, ◌+◌, ◌*◌, ◌≡◌, refl, arith}
use Rattle.ps_lower.proofs.Bounding.{clear_start, clear_next, clear_end}
use Rattle.ps_lower.proofs.sets.clear.Goals as goal

pub loop-word-init : goal.loop-word-init
loop-word-init c = (omega arith, clear_start c.args.t c.args.x _ _ c.in_ok-literal.ensures)

pub loop-word-preserved : goal.loop-word-preserved
loop-word-preserved c = (
  let b = c.loop-word-test.true in omega (arith, b),
  clear_next c.args.t c.args.x c.loop-word.word (c.loop-word.word + 1) (c.args.x + 4 * c.loop-word.word) _ _ _
      (let e : c.loop-word.word + 1 ≡ suc c.loop-word.word = omega arith in e) refl c.loop-word.invariant.1
      c.in_ok-store.ensures,
)

pub returns : goal.returns
returns c =
    clear_end c.args.t c.args.x c.loop-word.word c.args.out.now _
    (let a = c.loop-word-test.false in let b = c.loop-word.invariant.0 in omega (arith, a, b))
    c.loop-word.invariant.1
