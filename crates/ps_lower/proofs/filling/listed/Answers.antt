use Rattle.ps_lower.proofs.Pushing.{copied_start, copied_next, copied_all}
use Rattle.std.proofs.Common.{refl}
use Rattle.ps_lower.proofs.filling.listed.Goals as goal

pub loop-temporary-init : goal.loop-temporary-init
loop-temporary-init c = copied_start _ _ c.new-list.ensures

pub loop-temporary-preserved : goal.loop-temporary-preserved
loop-temporary-preserved c = copied_next _ _ _ _ _ _ c.loop-temporary-test.true c.loop-temporary.invariant refl
    c.in_ok-push.ensures.ok

pub returns : goal.returns
returns c = copied_all _ _ _ c.loop-temporary-test.false c.loop-temporary.invariant
