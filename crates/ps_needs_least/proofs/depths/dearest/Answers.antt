use Rattle.std.proofs.Common.{refl, sym, ◌∙◌}
use Rattle.ps_needs_least.proofs.Walking.{seen_start, seen_next, seen_all}
use Rattle.ps_needs_least.proofs.depths.dearest.Goals as goal

pub loop-part-init : goal.loop-part-init
loop-part-init c = seen_start _ _

pub loop-part-preserved : goal.loop-part-preserved
loop-part-preserved c = seen_next _ _ _ _ c.loop-part.invariant _ _ c.loop-part-test.true refl _ _
    (sym c.depth_of.ensures ∙ c.in-Some.is) c.larger-most.ensures

pub returns : goal.returns
returns c = seen_all _ _ _ _ c.loop-part.invariant c.loop-part-test.false
