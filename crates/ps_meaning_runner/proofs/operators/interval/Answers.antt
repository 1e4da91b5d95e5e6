use Rattle.std.proofs.Common.{◌≡◌, ◌+◌, subst, rules, arith}
use Rattle.ps_meaning_runner.proofs.SetsAndStrings.{Spanned, interval_next, interval_all}
use Rattle.ps_meaning_runner.proofs.operators.interval.Goals as goal

pub loop-number-preserved : goal.loop-number-preserved
loop-number-preserved c =
    rw c.in_ok-push.ensures.items (interval_next c.args.low c.loop-number.number c.loop-number.tests.items _
    (search rules) c.loop-number.invariant)

pub returns : goal.returns
returns c =
    let e : c.loop-number.number ≡ c.args.high + 1 = omega arith in
    interval_all c.args.low c.args.high c.loop-number.tests.items
    (subst (λ n. Spanned c.args.low n c.loop-number.tests.items) e c.loop-number.invariant)
