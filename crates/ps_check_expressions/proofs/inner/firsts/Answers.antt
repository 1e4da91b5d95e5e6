use Rattle.std.proofs.Common.{rules}
use Rattle.ps_check_expressions.proofs.Firsts.{filled_next}
use Rattle.ps_check_expressions.proofs.inner.firsts.Goals as goal

pub loop-change-preserved : goal.loop-change-preserved
loop-change-preserved c = filled_next c.args.changes.now c.loop-change.change-index c.loop-change.firsts.items _
    c.note.new.firsts.items (search rules) (search rules) c.loop-change.invariant c.in_ok-note.ensures
