use Rattle.ps_meaning_runner.proofs.Written.{spaces_next}
use Rattle.ps_meaning_runner.proofs.text.right_aligned.Goals as goal

pub loop-space-preserved : goal.loop-space-preserved
loop-space-preserved c = spaces_next _ _ _ _ c.loop-space.invariant c.in_ok-push.ensures.items
