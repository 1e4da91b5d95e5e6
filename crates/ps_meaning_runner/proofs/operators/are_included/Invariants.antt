use Rattle.std.proofs.Common.{◌≡◌, not, ◌||◌}
use Rattle.ps_meaning.specs.Operators.{all_below}
use Rattle.ps_meaning_runner.specs.View.{listed}
use Rattle.ps_meaning_runner.proofs.operators.are_included.Given as goal

abbrev pub invariant-loop-left : goal.invariant-loop-left
invariant-loop-left l = all_below l.left (λ k. not (listed l.a k) || listed l.b k) ≡ all_below l.below
    (λ k. not (listed l.a k) || listed l.b k)

abbrev pub decreases-loop-left : goal.decreases-loop-left
decreases-loop-left l = l.left
