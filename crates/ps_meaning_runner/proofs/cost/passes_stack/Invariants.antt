use Rattle.std.proofs.Common.{◌≡◌, ◌+◌, get_or, sum_by}
use Rattle.ps_meaning_runner.specs.Worlds.{numbers_of}
use Rattle.ps_meaning_runner.proofs.cost.passes_stack.Given as goal

abbrev pub invariant-loop-open : goal.invariant-loop-open
invariant-loop-open l = l.left + sum_by (λ n. get_or l.setup.frames.now n 0) (numbers_of l.active)
    ≡ l.setup.stack + sum_by (λ n. get_or l.setup.frames.now n 0) (numbers_of l.open)
