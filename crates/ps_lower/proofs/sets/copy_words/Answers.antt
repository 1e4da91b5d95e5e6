use Rattle.std.proofs.Common.{suc, ◌+◌, ◌*◌, ◌≡◌, refl, arith}
use Rattle.ps_lower.proofs.Bounding.{words_start, words_next, words_end}
use Rattle.ps_lower.proofs.sets.copy_words.Goals as goal

pub loop-word-init : goal.loop-word-init
loop-word-init c = (omega arith, words_start c.args.to c.args.offset c.args.from c.args.start c.args.spare _)

pub loop-word-preserved : goal.loop-word-preserved
loop-word-preserved c = (
  let b = c.loop-word-test.true in omega (arith, b),
  words_next c.args.to c.args.offset c.args.from c.args.start c.args.spare c.loop-word.word (c.loop-word.word + 1)
      (c.args.start + 4 * c.loop-word.word) (c.args.offset + 4 * c.loop-word.word) _ _ _ _
      (let e : c.loop-word.word + 1 ≡ suc c.loop-word.word = omega arith in e) refl refl c.loop-word.invariant.1
      c.in_ok-load.ensures c.in_ok-store.ensures,
)

pub returns : goal.returns
returns c =
    words_end c.args.to c.args.offset c.args.from c.args.start c.args.spare c.loop-word.word c.args.out.now _
    (let a = c.loop-word-test.false in let b = c.loop-word.invariant.0 in omega (arith, a, b))
    c.loop-word.invariant.1
