use Rattle.std.proofs.Common.{suc, refl}
use Rattle.ps_lower_code.specs.Programs.{in_list}
use Rattle.ps_lower.proofs.Largest.{largest_start, largest_next, largest_all}
use Rattle.ps_lower.proofs.count.in_list.Goals as goal

pub loop-t-init : goal.loop-t-init
loop-t-init c = largest_start in_list _

pub loop-t-preserved : goal.loop-t-preserved
loop-t-preserved c = largest_next in_list (λ t. suc t)
    (λ x xs. refl) _ _ _ _ _ 0 c.loop-t-test.true c.loop-t.invariant c.one.ensures c.larger-most.ensures

pub returns : goal.returns
returns c = largest_all in_list refl _ _ _ c.loop-t-test.false c.loop-t.invariant
