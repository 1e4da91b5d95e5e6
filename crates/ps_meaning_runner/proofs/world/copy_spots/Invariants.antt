use Rattle.std.proofs.Common.{◌≡◌, map, take}
use Rattle.ps_meaning_runner.specs.View.{spot_of}
use Rattle.ps_meaning_runner.proofs.world.copy_spots.Given as goal

abbrev pub invariant-loop-spot : goal.invariant-loop-spot
invariant-loop-spot l = map spot_of l.copies.items ≡ map spot_of (take l.spot-index l.spots)
