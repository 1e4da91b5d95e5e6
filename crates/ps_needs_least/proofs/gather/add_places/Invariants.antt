use Rattle.ps_needs_least.proofs.Gathering.{Gathered}
use Rattle.ps_needs_least.proofs.Arms.{places_in}
use Rattle.ps_needs_least.proofs.gather.add_places.Given as goal

abbrev pub invariant-loop-place : goal.invariant-loop-place
invariant-loop-place l = Gathered places_in l.fn.found l.places l.place-index l.found
