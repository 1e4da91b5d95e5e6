use Rattle.std.proofs.Common.{◌≡◌, length}
use Rattle.ps_meaning.specs.Values.{part}
use Rattle.ps_meaning_runner.specs.View.{value_of}
use Rattle.ps_meaning_runner.proofs.value.part.Given as goal

abbrev pub invariant-loop-left : goal.invariant-loop-left
invariant-loop-left l = part (value_of l.whole) l.left ≡ part (value_of l.value) l.path

abbrev pub decreases-loop-left : goal.decreases-loop-left
decreases-loop-left l = length l.left
