use Rattle.std.proofs.Common.{rules, sym, ◌∙◌}
use Rattle.tac_pass.proofs.Rows.{no_more_next, no_more_fails}
use Rattle.tac_pass.proofs.table.entries.are_no_more.Goals as goal

pub loop-at-preserved : goal.loop-at-preserved
loop-at-preserved c = no_more_next _ _ _ c.requires c.loop-at-test.true
    (sym c.is_no_more_at.ensures ∙ (search rules)) c.loop-at.invariant

pub returns-then-not-is_no_more_at : goal.returns-then-not-is_no_more_at
returns-then-not-is_no_more_at c = sym (no_more_fails _ _ _ c.requires c.loop-at-test.true
    (sym c.is_no_more_at.ensures ∙ (search rules)) c.loop-at.invariant)
