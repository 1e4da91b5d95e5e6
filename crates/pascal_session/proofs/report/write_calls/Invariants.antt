use Rattle.std.proofs.Common.{take}
use Rattle.std.specs.Fmt.{HasWritten, IsPlainFormatter}
use Rattle.pascal_session.specs.Report.{calls_text}
use Rattle.pascal_session.proofs.report.write_calls.Given as goal

-- the lines of the calls so far were written
abbrev pub invariant-loop-k : goal.invariant-loop-k
invariant-loop-k g l =
    IsPlainFormatter l.initial.f → HasWritten g.W.Write.write_str_gives l.initial.f (calls_text (take l.k l.trail)) l.f
