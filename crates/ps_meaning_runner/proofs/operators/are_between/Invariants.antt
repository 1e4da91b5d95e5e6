use Rattle.std.proofs.Common.{◌≡◌, not, ◌||◌, pos}
use Rattle.ps_meaning.specs.Operators.{all_below, is_between}
use Rattle.ps_meaning_runner.specs.View.{listed}
use Rattle.ps_meaning_runner.proofs.operators.are_between.Given as goal

abbrev pub invariant-loop-left : goal.invariant-loop-left
invariant-loop-left l = all_below l.left (λ k. not (listed l.tests k) || is_between l.low (pos k) l.high)
    ≡ all_below l.below (λ k. not (listed l.tests k) || is_between l.low (pos k) l.high)

abbrev pub decreases-loop-left : goal.decreases-loop-left
decreases-loop-left l = l.left
