-- Windows of twelve seats, and who holds them at a point of a walk.
use Rattle.std.specs.Prelude.{◌≡◌, ◌≢◌, ℕ, ◌+◌, ◌<◌, Bool, true, List, length, slice_get, slice_index, Some}
use Rattle.risc_alloc.specs.declared.window.Window.{Window}

-- the seat of a temporary among those of a window, 12 for one that sits elsewhere
abbrev pub place_in : Window → ℕ → ℕ
place_in window t = slice_index window.seats.items t

abbrev pub IsHere : Window → ℕ → Type 0
IsHere window t = place_in window t < 12

-- The twelve seats from one on: the registers, or slots. Those who sit there are given by the distance from the first.
pub record IsWindow (seats : List ℕ) (from : ℕ) (window : Window) : Type 0 where
  pub here : (t s : ℕ) → slice_index seats t ≡ from + s → s < 12 → place_in window t ≡ s
  pub registers : from < 12 → window.registers ≡ true

-- A temporary is found alive: it holds its seat. A holder is given by its number plus 1, and nobody by 0.
abbrev pub Held : Window → (holders : List ℕ) → ℕ → Type 0
Held window holders u = (u < length window.seats.items) × (slice_index holders (place_in window u) ≡ u + 1)

-- the same, for one that sits in the window
abbrev pub IsHeldHere : Window → (holders : List ℕ) → ℕ → Type 0
IsHeldHere window holders u = IsHere window u → Held window holders u

-- nobody leaves
abbrev pub Keeps : Window → (old new : List ℕ) → Type 0
Keeps window old new = (u : ℕ) → Held window old u → Held window new u

abbrev pub IsIn : List ℕ → ℕ → Type 0
IsIn list u = (k : ℕ) × (k < length list) × (slice_index list k ≡ u)

-- nobody else holds a temporary's seat
abbrev pub IsFreeFor : Window → (holders : List ℕ) → ℕ → Type 0
IsFreeFor window holders t =
    IsHere window t → (u : ℕ) → Held window holders u → u ≢ t → place_in window u ≢ place_in window t

-- nobody else holds a seat of the window
abbrev pub IsEmptyBut : Window → (holders : List ℕ) → ℕ → Type 0
IsEmptyBut window holders t = (u : ℕ) → Held window holders u → u ≡ t

-- all but one stay
abbrev pub KeepsBut : Window → ℕ → (old new : List ℕ) → Type 0
KeepsBut window t old new = (u : ℕ) → u ≢ t → Held window old u → Held window new u

abbrev pub IsMarked : List Bool → ℕ → Type 0
IsMarked marks seat = slice_get marks seat ≡ Some true

-- Each seat is marked in which a temporary sits that doesn't sit in the slot of its own number.
abbrev pub MarksStrangers : (seats : List ℕ) → (marks : List Bool) → Type 0
MarksStrangers seats marks =
    (t : ℕ) → t < length seats → slice_index seats t ≢ 12 + t → slice_index seats t < length marks → IsMarked marks
    (slice_index seats t)
