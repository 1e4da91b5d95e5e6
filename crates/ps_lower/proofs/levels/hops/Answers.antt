use Rattle.std.proofs.Common.{suc, ◌+◌, ◌≡◌, arith}
use Rattle.ps_lower.specs.Levels.{scope_of}
use Rattle.ps_lower.proofs.Hopping.{hopped_start, hopped_next, hopped_all}
use Rattle.ps_lower.proofs.levels.hops.Goals as goal

pub loop-init : goal.loop-init
loop-init c = hopped_start _ _ _

pub loop-preserved : goal.loop-preserved
loop-preserved c = hopped_next _ _ _ c.loop.counter _ _ _ c.loop-test.true
    (let e : c.loop.counter + 1 ≡ suc c.loop.counter = omega arith in e) c.loop.invariant c.in_ok-load.ensures

pub returns : goal.returns
returns c = hopped_all (scope_of c.args.level.now) _ _ _ _ _ c.loop-test.false c.loop.invariant
