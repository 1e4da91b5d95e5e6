use Rattle.ps_text.proofs.Places.{Left}
use Rattle.ps_text.proofs.table.line_ends.Given as goal

abbrev pub invariant-loop-offset : goal.invariant-loop-offset
invariant-loop-offset l = Left l.text l.ends.items l.offset-iterator
