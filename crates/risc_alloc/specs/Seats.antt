-- Homes as numbers.
use Rattle.std.specs.Prelude.{◌≡◌, ℕ, ◌+◌, ◌<◌, List, length, slice_get, slice_index, Some}
use Rattle.risc_alloc.specs.declared.homes.Home.{Home}
use Rattle.risc_alloc.specs.declared.homes.Home.TheVariants.{Slot, Reg}

-- the twelve registers, and after them the slots
abbrev pub seat_number : Home → ℕ
seat_number (Reg q) = q
seat_number (Slot j) = 12 + j

-- a home that a routine with this many temporaries has
abbrev pub IsHome : ℕ → Home → Type 0
IsHome temporaries (Reg q) = q < 12
IsHome temporaries (Slot j) = j < temporaries

pub record IsSeatOf (temporaries : ℕ) (home : Home) (seat : ℕ) : Type 0 where
  pub is : seat ≡ seat_number home
  pub within : IsHome temporaries home

pub record AreSeatsOf (homes : List Home) (seats : List ℕ) : Type 0 where
  pub count : length seats ≡ length homes
  pub each : (t : ℕ) (home : Home) → slice_get homes t ≡ Some home → IsSeatOf (length homes) home (slice_index seats t)
