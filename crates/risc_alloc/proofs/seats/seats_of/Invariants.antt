use Rattle.std.proofs.Common.{◌≡◌, ℕ, ◌<◌, length, slice_get, slice_index, Some}
use Rattle.risc_alloc.specs.declared.homes.Home.{Home}
use Rattle.risc_alloc.specs.Seats.{IsSeatOf}
use Rattle.risc_alloc.proofs.seats.seats_of.Given as goal

abbrev pub invariant-loop-home : goal.invariant-loop-home
invariant-loop-home l =
    (length l.seats.items ≡ l.home-index) × ((t : ℕ) (home : Home) → t < l.home-index → slice_get l.homes t ≡ Some home
    → IsSeatOf (length l.homes) home (slice_index l.seats.items t))
