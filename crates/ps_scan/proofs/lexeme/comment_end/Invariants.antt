use Rattle.std.proofs.Common.{◌≡◌, false, drop}
use Rattle.ps_scan.specs.Scanner.{comment_end}
use Rattle.ps_scan.proofs.lexeme.comment_end.Given as goal

abbrev pub invariant-loop-at : goal.invariant-loop-at
invariant-loop-at l = comment_end l.is_after_star l.at (drop l.at l.text) ≡ comment_end false 0 l.text
