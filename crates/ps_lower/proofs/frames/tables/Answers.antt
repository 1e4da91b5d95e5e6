use Rattle.std.proofs.Common.{ap, ◌∙◌}
use Rattle.ps_tree.specs.View.{routine_of}
use Rattle.ps_lower.specs.Tables.{contents_of}
use Rattle.ps_lower.proofs.Laying.{tabled_start, tabled_next, tabled_all}
use Rattle.ps_lower.proofs.Limits.{table_few}
use Rattle.ps_lower.proofs.frames.tables.Goals as goal

pub loop-routine-init : goal.loop-routine-init
loop-routine-init c = tabled_start _ _ c.new-list.ensures.items

pub loop-routine-preserved : goal.loop-routine-preserved
loop-routine-preserved c = tabled_next _ _ _ _ c.routine-item.result _ c.loop-routine-test.true c.loop-routine.invariant
    (c.in_ok-table.ensures ∙ ap (λ r. contents_of (routine_of r)) c.routine-item.is) c.in_ok-push.ensures.items

pub returns : goal.returns
returns c = tabled_all _ _ _ c.loop-routine-test.false c.loop-routine.invariant

pub table-requires : goal.table-requires
table-requires c = table_few _ _ c.routine-item.result c.loop-routine-test.true c.routine-item.is c.requires
