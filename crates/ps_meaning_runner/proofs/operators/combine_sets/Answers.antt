use Rattle.std.proofs.Common.{rules, arith}
use Rattle.ps_meaning_runner.proofs.SetsAndStrings.{combined_next, combined_all}
use Rattle.ps_meaning_runner.proofs.operators.combine_sets.Goals as goal

pub loop-number-preserved : goal.loop-number-preserved
loop-number-preserved c =
    rw c.in_ok-push.ensures.items (combined_next c.args.operator c.args.a.now c.args.b.now c.loop-number.number
    c.loop-number.tests.items _ (search rules) c.loop-number.invariant)

pub returns : goal.returns
returns c = combined_all c.args.operator c.args.a.now c.args.b.now c.loop-number.number c.loop-number.tests.items
    (omega arith) c.loop-number.invariant
