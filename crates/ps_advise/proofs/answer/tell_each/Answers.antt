use Rattle.std.proofs.Common.{arith}
use Rattle.ps_advise.proofs.answer.tell_each.Goals as goal

pub returns-then-not-branch-clause-first : goal.returns-then-not-branch-clause-first
returns-then-not-branch-clause-first c refusal may refused =
    let so_far = c.loop.invariant.1 refusal may refused in
    (c.in_ok-tell_one.ensures.first refusal so_far.0 so_far.1).0

pub loop-preserved : goal.loop-preserved
loop-preserved c = (
  λ text whole all.
      let so_far = c.loop.invariant.0 text whole all in
      c.in_ok-tell_one.ensures.told text so_far.1 so_far.0,
  λ refusal may refused.
      let so_far = c.loop.invariant.1 refusal may refused in
      let told = c.in_ok-tell_one.ensures.first refusal so_far.0 so_far.1 in (
        told.0,
        λ none. let ends = told.1 none in let goes = c.if-not-branch.false in absurd
            (grind (arith, ends, goes)),
      ),
)

pub returns-clause-first : goal.returns-clause-first
returns-clause-first c refusal may refused = (c.loop.invariant.1 refusal may refused).0
