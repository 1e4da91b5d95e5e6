use Rattle.std.proofs.Common.{◌≡◌, length}
use Rattle.ps_meaning.specs.Text.{has_line_end}
use Rattle.ps_meaning_runner.proofs.text.has_line_end.Given as goal

abbrev pub invariant-loop-left : goal.invariant-loop-left
invariant-loop-left l = has_line_end l.left ≡ has_line_end l.bytes

abbrev pub decreases-loop-left : goal.decreases-loop-left
decreases-loop-left l = length l.left
