use Rattle.std.proofs.Common.{arith}
use Rattle.ps_needs_image.proofs.Standing.{frames_next, frames_all}
use Rattle.ps_needs_image.proofs.needed.frames_of.Goals as goal

pub loop-routine-preserved : goal.loop-routine-preserved
loop-routine-preserved c = frames_next _ _ _ _ _
    (let l = c.loop-routine-test.true in let e = c.frames-routine-end.ensures in omega (arith, l, e))
    c.loop-routine.invariant c.in_ok-push.ensures.items c.frame_of.ensures

pub returns : goal.returns
returns c = frames_all _ _ _ (let l = c.loop-routine-test.false in let e = c.frames-routine-end.ensures in omega
    (arith, l, e)) c.loop-routine.invariant
