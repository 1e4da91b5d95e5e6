use Rattle.std.proofs.Common.{refl, ap, ◌∙◌}
use Rattle.ps_tree.specs.Counts.{nothing, capped, place_extent}
use Rattle.ps_tree.specs.View.{place_of}
use Rattle.ps_tree.proofs.Sums.{summed_start, summed_next, summed_all, places_size, places_none, places_more}
use Rattle.ps_tree.proofs.count.count_places.Goals as goal

pub loop-place-init : goal.loop-place-init
loop-place-init c = summed_start places_size nothing _ _ refl

pub loop-place-preserved : goal.loop-place-preserved
loop-place-preserved c = summed_next places_size
    (λ x. place_extent (place_of x)) places_more nothing _ _ _ _ _ c.place-item.result c.loop-place-test.true
    c.loop-place.invariant (c.count_place.ensures ∙ ap (λ x. capped (place_extent (place_of x))) c.place-item.is)
    c.both-total.ensures

pub returns : goal.returns
returns c = summed_all places_size places_none _ _ _ c.loop-place-test.false c.loop-place.invariant
