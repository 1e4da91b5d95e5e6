use Rattle.std.proofs.Common.{sym}
use Rattle.tac_pass.proofs.Rows.{seen_end}
use Rattle.tac_pass.proofs.table.entries.sees_all.Goals as goal

pub returns : goal.returns
returns c = sym (seen_end _ _ _ _ _ c.loop-at-test.false c.loop-at.invariant)
