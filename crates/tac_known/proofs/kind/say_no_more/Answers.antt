use Rattle.std.proofs.Common.{rules, sym, ◌∙◌}
use Rattle.tac_known.proofs.Walked.{no_more_next}
use Rattle.tac_known.proofs.kind.say_no_more.Goals as goal

pub loop-at-preserved : goal.loop-at-preserved
loop-at-preserved c = no_more_next _ _ _ c.requires c.loop-at-test.true
    (sym c.is_no_more_at.ensures ∙ (search rules)) c.loop-at.invariant
