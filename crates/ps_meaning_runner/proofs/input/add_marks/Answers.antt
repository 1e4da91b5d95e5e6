use Rattle.ps_meaning_runner.proofs.Written.{marks_next}
use Rattle.ps_meaning_runner.proofs.input.add_marks.Goals as goal

pub loop-mark-preserved : goal.loop-mark-preserved
loop-mark-preserved c = marks_next _ _ _ _ _ c.loop-mark.invariant c.in_ok-push.ensures.items
