use Rattle.std.proofs.Common.{◌≡◌, ◌+◌, ◌≤◌, true, false, drop}
use Rattle.ps_scan.specs.Scanner.{string_end}
use Rattle.ps_scan.proofs.lexeme.string_end.Given as goal

abbrev pub invariant-loop-at : goal.invariant-loop-at
invariant-loop-at l = (string_end l.is_pending (l.at + 1) (drop l.at l.text) ≡ string_end false 1 l.text)
    × (l.is_pending ≡ true → 1 ≤ l.at)
