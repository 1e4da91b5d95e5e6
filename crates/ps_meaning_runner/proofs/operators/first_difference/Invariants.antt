use Rattle.std.proofs.Common.{◌≡◌, ◌-◌, drop, length}
use Rattle.ps_meaning.specs.Operators.{first_difference}
use Rattle.ps_meaning_runner.specs.View.{values_of}
use Rattle.ps_meaning_runner.proofs.operators.first_difference.Given as goal

abbrev pub invariant-loop-place : goal.invariant-loop-place
invariant-loop-place l = first_difference (values_of (drop l.place l.a)) (values_of (drop l.place l.b))
    ≡ first_difference (values_of l.a) (values_of l.b)

abbrev pub decreases-loop-place : goal.decreases-loop-place
decreases-loop-place l = length l.a - l.place
