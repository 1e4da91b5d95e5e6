-- The lines that were written are those of the calls.
use Rattle.std.proofs.Common.{rules, ◌∙◌, ◌++◌, ℕ, take, ap, sym, arith}
use Rattle.std.proofs.lemmas.Grind.{put_two}
use Rattle.std.specs.Fmt.{HasWritten}
use Rattle.pascal_session.specs.Report.{call_text, calls_text}
use Rattle.pascal_session.proofs.Called.{calls_more}
use Rattle.pascal_session.proofs.report.write_calls.Goals as goal

pub loop-k-preserved : goal.loop-k-preserved
loop-k-preserved g c = λ plain.
    let so_far = c.loop-k.invariant plain in
    let line : HasWritten g.W.Write.write_str_gives c.loop-k.f (call_text c.line-line.result) c.write.new.self = search
    (rules, so_far) in
    let before = calls_text (take c.loop-k.k c.args.trail.now) in
    let is = ap (λ (n : ℕ). before ++ call_text n) c.line-line.ensures in
    put_two g.W.Write.write_str_gives c.args.f.now c.loop-k.f c.write.new.self before
    (call_text c.line-line.result) _ so_far line
    (is ∙ sym (calls_more c.loop-k.k c.args.trail.now (omega (arith, c.loop-k-test.true, c.len-k-end.ensures.value))))
