use Rattle.ps_lower_least.proofs.Gathering.{Gathered}
use Rattle.ps_lower_least.proofs.Arms.{places_in}
use Rattle.ps_lower_least.proofs.walk.add_places.Given as goal

abbrev pub invariant-loop-place : goal.invariant-loop-place
invariant-loop-place l = Gathered places_in l.fn.count l.places l.place-index l.count
