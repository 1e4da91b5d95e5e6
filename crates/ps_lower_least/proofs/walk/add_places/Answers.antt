use Rattle.std.proofs.Common.{refl}
use Rattle.ps_tree.specs.View.{place_of}
use Rattle.ps_lower_least.specs.Fewest.{place_fewest}
use Rattle.ps_lower_least.proofs.Gathering.{gathered_start, gathered_next, gathered_all}
use Rattle.ps_lower_least.proofs.Arms.{places_in, places_more}
use Rattle.ps_lower_least.proofs.walk.add_places.Goals as goal

pub loop-place-init : goal.loop-place-init
loop-place-init c = gathered_start places_in _ _

pub loop-place-preserved : goal.loop-place-preserved
loop-place-preserved c = gathered_next places_in
    (λ x. place_fewest (place_of x)) places_more _ _ _ _ _ c.place-item.result _ c.place-item.is c.loop-place-test.true
    c.loop-place.invariant c.add_place.ensures

pub returns : goal.returns
returns c = gathered_all places_in refl _ _ _ _ c.loop-place-test.false c.loop-place.invariant
