use Rattle.std.proofs.Common.{◌≡◌, length}
use Rattle.ps_meaning.specs.Operators.{is_among}
use Rattle.ps_meaning_runner.proofs.operators.is_among.Given as goal

abbrev pub invariant-loop-left : goal.invariant-loop-left
invariant-loop-left l = is_among l.x l.left ≡ is_among l.x l.constants

abbrev pub decreases-loop-left : goal.decreases-loop-left
decreases-loop-left l = length l.left
