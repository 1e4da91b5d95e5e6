use Rattle.std.proofs.Common.{◌≡◌, ◌+◌, take, get_or, sum_by}
use Rattle.ps_meaning_runner.proofs.cost.left_after.Given as goal

abbrev pub invariant-loop-number : goal.invariant-loop-number
invariant-loop-number l = l.left + sum_by (λ n. get_or l.costs n 0) (take l.number-index l.numbers) ≡ l.budget
