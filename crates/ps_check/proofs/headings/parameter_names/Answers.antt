use Rattle.ps_check.proofs.Lists.{gained_next, gained_end}
use Rattle.ps_check.proofs.headings.parameter_names.Goals as goal

pub loop-written-preserved : goal.loop-written-preserved
loop-written-preserved c = gained_next _ _ _ _ _ _ _ c.loop-written-test.true c.written-item.is c.loop-written.invariant
    c.in_ok-add_names.ensures

pub returns : goal.returns
returns c = gained_end _ _ _ _ _ c.loop-written-test.false c.loop-written.invariant
