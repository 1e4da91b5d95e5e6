use Rattle.std.proofs.Common.{◌≡◌, length}
use Rattle.ps_meaning.specs.Text.{after_blanks}
use Rattle.ps_meaning_runner.proofs.text.after_blanks.Given as goal

abbrev pub invariant-loop-left : goal.invariant-loop-left
invariant-loop-left l = after_blanks l.left ≡ after_blanks l.bytes

abbrev pub decreases-loop-left : goal.decreases-loop-left
decreases-loop-left l = length l.left
