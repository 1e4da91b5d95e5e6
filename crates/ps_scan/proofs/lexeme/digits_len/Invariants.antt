use Rattle.std.proofs.Common.{◌≡◌, ◌+◌, drop}
use Rattle.ps_scan.specs.Scanner.{digits_len}
use Rattle.ps_scan.proofs.lexeme.digits_len.Given as goal

abbrev pub invariant-loop-at : goal.invariant-loop-at
invariant-loop-at l = l.at + digits_len (drop l.at l.text) ≡ digits_len l.text
