use Rattle.tac_pass.proofs.Rows.{hit_end}
use Rattle.tac_pass.proofs.table.entries.hit_all.Goals as goal

pub returns : goal.returns
returns c = hit_end _ _ _ _ _ _ c.loop-at-test.false c.loop-at.invariant
