use Rattle.ps_diagnostic.proofs.Columns.{IsCounted}
use Rattle.ps_diagnostic.proofs.view.behind_last_end.Given as goal

abbrev pub invariant-loop-byte : goal.invariant-loop-byte
invariant-loop-byte l = IsCounted l.bytes l.byte-index l.count
