use Rattle.std.proofs.Common.{refl, ap, ◌∙◌}
use Rattle.ps_tree.specs.View.{place_of}
use Rattle.ps_lower_code.specs.Calling as code
use Rattle.ps_lower.proofs.Searches.{passed_start, passed_next, passed_found, passed_all, places_in, places_more}
use Rattle.ps_lower.proofs.calling.places_call.Goals as goal

pub loop-place-init : goal.loop-place-init
loop-place-init c = passed_start places_in _

pub loop-place-preserved : goal.loop-place-preserved
loop-place-preserved c = passed_next places_in
    (λ x. code.place_calls (place_of x)) places_more _ _ _ c.place-item.result c.loop-place-test.true
    c.loop-place.invariant (c.place_calls.ensures ∙ ap (λ x. code.place_calls (place_of x)) c.place-item.is)
    c.if-place_calls.false

pub returns-then-place_calls : goal.returns-then-place_calls
returns-then-place_calls c = passed_found places_in
    (λ x. code.place_calls (place_of x)) places_more _ _ _ c.place-item.result c.loop-place-test.true
    c.loop-place.invariant (c.place_calls.ensures ∙ ap (λ x. code.place_calls (place_of x)) c.place-item.is)
    c.if-place_calls.true

pub returns : goal.returns
returns c = passed_all places_in refl _ _ c.loop-place-test.false c.loop-place.invariant
