use Rattle.std.proofs.Common.{◌≡◌, ◌++◌, replicate}
use Rattle.ps_meaning_runner.proofs.input.add_marks.Given as goal

abbrev pub invariant-loop-mark : goal.invariant-loop-mark
invariant-loop-mark l = l.transcript.items ≡ l.fn.transcript.items ++ replicate l._mark 256
