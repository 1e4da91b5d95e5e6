use Rattle.ps_tree.specs.Counts.{nothing}
use Rattle.ps_tree.proofs.Sums.{Summed, places_size}
use Rattle.ps_tree.proofs.count.count_places.Given as goal

abbrev pub invariant-loop-place : goal.invariant-loop-place
invariant-loop-place l = Summed places_size nothing l.places l.place-index l.total
