use Rattle.std.proofs.Common.{arith}
use Rattle.ps_meaning_runner.proofs.Costs.{passed_at, free_of_cost}
use Rattle.ps_meaning_runner.proofs.cost.left_after.Goals as goal

pub returns-then-left-cost : goal.returns-then-left-cost
returns-then-left-cost c =
    passed_at c.args.costs.now c.args.numbers.now c.loop-number.number-index c.loop-number.left c.cost_of-cost.result
    c.args.budget c.loop-number.invariant c.cost_of-cost.ensures c.if-left-cost.true c.loop-number-test.true

pub returns-then-costs-eq0 : goal.returns-then-costs-eq0
returns-then-costs-eq0 c = omega (arith, free_of_cost c.args.costs.now c.args.numbers.now c.if-costs-eq0.true)
