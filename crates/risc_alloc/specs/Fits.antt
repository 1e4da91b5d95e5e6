-- What a placement keeps apart, in one routine.
use Rattle.std.specs.Prelude.{◌≡◌, ◌≢◌, ℕ, ◌<◌, ◌≤◌, true, List, length, slice_get, slice_index, Option}
use Rattle.tac_code.specs.declared.code.Instruction.{Instruction}
use Rattle.tac_code.specs.declared.code.TacRoutine.{TacRoutine}
use Rattle.risc_alloc.specs.declared.homes.Home.{Home}
use Rattle.risc_alloc.specs.declared.homes.Home.TheVariants.{Slot, Reg}
use Rattle.risc_alloc.specs.Flow.{writes, leads, comes_back}
use Rattle.risc_alloc.specs.Alive.{Alive}
use Rattle.risc_alloc.specs.Homes.{home_in}

-- The homes of a routine's temporaries, the first of which are its parameters. The routine is given by the instructions
-- at its places.
pub record Fits (at : ℕ → Option Instruction) (parameters : ℕ) (homes : List Home) : Type 0 where
  pub slot : (t j : ℕ) → home_in homes t ≡ Slot j → j < length homes
  pub register : (t q : ℕ) → home_in homes t ≡ Reg q → q < 12
  pub apart : (place t u : ℕ) → Alive at place t → Alive at place u → t ≢ u → home_in homes t ≢ home_in homes u
  pub written : (place next t u : ℕ) → leads (at place) place next ≡ true → writes (at place) t ≡ true → Alive at next u
      → u ≢ t → home_in homes u ≢ home_in homes t
  pub called : (place t u : ℕ) → comes_back at place t ≡ true → Alive at place u → u ≢ t → (j : ℕ)
      × (home_in homes u ≡ Slot j)
  pub entered : (t u : ℕ) → t < parameters → Alive at 0 u → u ≢ t → home_in homes u ≢ home_in homes t

abbrev pub RoutineFits : TacRoutine → List Home → Type 0
RoutineFits routine homes = Fits (λ place. slice_get routine.body place) routine.parameters homes

-- The same for those that sit in one seat, given the seats of the temporaries: no two are alive together, or alive
-- where the other is written.
pub record SeatFits (at : ℕ → Option Instruction) (parameters : ℕ) (seats : List ℕ) (seat : ℕ) : Type 0 where
  pub apart : (place t u : ℕ) → slice_index seats t ≡ seat → slice_index seats u ≡ seat → Alive at place t
      → Alive at place u → t ≡ u
  pub written : (place next t u : ℕ) → slice_index seats t ≡ seat → slice_index seats u ≡ seat → leads
      (at place) place next ≡ true → writes (at place) t ≡ true → Alive at next u → u ≡ t
  -- across a call none is alive in a register
  pub called : (place t u : ℕ) → seat < 12 → slice_index seats u ≡ seat → comes_back at place t ≡ true
      → Alive at place u → u ≡ t
  pub entered : (t u : ℕ) → slice_index seats t ≡ seat → slice_index seats u ≡ seat → t < parameters → Alive at 0 u → u
      ≡ t

-- for each of `count` seats that is from one on and before another
abbrev pub SeatsFit : TacRoutine → (seats : List ℕ) → (count from past : ℕ) → Type 0
SeatsFit routine seats count from past =
    (seat : ℕ) → from ≤ seat → seat < past → seat < count → SeatFits
    (λ place. slice_get routine.body place) routine.parameters seats seat
