use Rattle.std.proofs.Common.{arith}
use Rattle.risc_emit.proofs.Texts.{word_put, words_put}
use Rattle.risc_emit.proofs.draft.put_words.Goals as goal

pub loop-k-preserved : goal.loop-k-preserved
loop-k-preserved c =
    word_put _ _ _ c.args.bytes.now c.loop-k.k _ (λ i. let fits = c.type_inv.bytes i in omega (arith, fits))
    (let lt = c.loop-k-test.true in omega (arith, lt)) c.word_at.ensures c.in_ok-push.ensures.items
    c.loop-k.invariant

pub returns : goal.returns
returns c =
    words_put _ _ c.args.bytes.now c.loop-k.k (let le = c.loop-k-test.false in omega (arith, le)) c.loop-k.invariant
