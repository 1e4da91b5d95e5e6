use Rattle.tac_known.proofs.Walked.{forget_next}
use Rattle.tac_known.proofs.kind.forget_all.Goals as goal

pub loop-at-preserved : goal.loop-at-preserved
loop-at-preserved c = forget_next _ _ _ _ c.forgotten.ensures c.loop-at-test.true c.loop-at.invariant
