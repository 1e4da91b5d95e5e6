use Rattle.std.proofs.Common.{◌≡◌, ◌+◌, drop}
use Rattle.ps_scan.specs.Scanner.{word_len}
use Rattle.ps_scan.proofs.lexeme.word_len.Given as goal

abbrev pub invariant-loop-at : goal.invariant-loop-at
invariant-loop-at l = l.at + word_len (drop l.at l.text) ≡ word_len l.text
