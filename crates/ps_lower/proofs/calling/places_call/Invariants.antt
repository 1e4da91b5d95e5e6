use Rattle.ps_lower.proofs.Searches.{Passed, places_in}
use Rattle.ps_lower.proofs.calling.places_call.Given as goal

abbrev pub invariant-loop-place : goal.invariant-loop-place
invariant-loop-place l = Passed places_in l.places l.place-index
