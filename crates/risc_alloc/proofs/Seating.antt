-- Homes and their seats, one after the other.
use Rattle.std.proofs.Common.{◌≡◌, ℕ, zero, suc, true, ◌+◌, ◌<◌, ◌≤◌, ◌⊎◌, inl, inr, ⊎_elim, List, [], ◌∷◌, ◌++◌}
use Rattle.std.proofs.Common.{length, length-append, slice_get, slice_index, Some, refl, sym, ap, ◌∙◌, subst, arith}
use Rattle.std.proofs.lemmas.Bool.{cases_lt}
use Rattle.std.proofs.lemmas.List.{append_assoc}
use Rattle.std.proofs.lemmas.Option.{slice_get_within}
use Rattle.risc_alloc.specs.declared.homes.Home.{Home}
use Rattle.risc_alloc.specs.declared.homes.Home.TheVariants.{Slot}
use Rattle.risc_alloc.specs.Seats.{IsSeatOf, AreSeatsOf}
use Rattle.risc_alloc.specs.declared.window.Window.{Window}
use Rattle.risc_alloc.specs.Windows.{IsWindow}
use Rattle.risc_alloc.specs.Slots.{own_slots}

pub index_past : (xs : List ℕ) (t : ℕ) → length xs ≤ t → slice_index xs t ≡ 0
index_past [] t le = refl
index_past (x ∷ xs) zero le = absurd (omega arith)
index_past (x ∷ xs) (suc t) le = let shorter : length xs ≤ t = omega arith in index_past xs t shorter

index_front : (xs : List ℕ) (y t : ℕ) → t < length xs → slice_index (xs ++ y ∷ []) t ≡ slice_index xs t
index_front [] y t lt = absurd (omega (arith, lt))
index_front (x ∷ xs) y zero lt = refl
index_front (x ∷ xs) y (suc t) lt = index_front xs y t (omega (arith, lt))

index_last : (xs : List ℕ) (y : ℕ) → slice_index (xs ++ y ∷ []) (length xs) ≡ y
index_last [] y = refl
index_last (x ∷ xs) y = index_last xs y

-- the homes before a place have these seats
abbrev pub Each : (homes : List Home) (n : ℕ) (seats : List ℕ) → Type 0
Each homes n seats =
    (t : ℕ) (home : Home) → t < n → slice_get homes t ≡ Some home → IsSeatOf (length homes) home (slice_index seats t)

pub seats_more : (homes : List Home) (n seat : ℕ) (home : Home) (seats more : List ℕ) → IsSeatOf
    (length homes) home seat → slice_get homes n ≡ Some home → more ≡ seats ++ seat ∷ [] → length seats ≡ n
    → Each homes n seats → (length more ≡ n + 1) × Each homes (n + 1) more
seats_more homes n seat home seats more is here e count each = (
  let a = ap length e in let b = length-append seats (seat ∷ []) in omega
      (arith, a, b, count),
  λ t h lt at. by t h lt at (cases_lt t n),
)
  where
    by : (t : ℕ) (h : Home) → t < n + 1 → slice_get homes t ≡ Some h → (t < n) ⊎ (n ≤ t) → IsSeatOf (length homes) h
        (slice_index more t)
    by t h lt at (inl below) =
        let within : t < length seats = omega (arith, below, count) in
        let same : slice_index seats t ≡ slice_index more t = sym
        (ap (λ (l : List ℕ). slice_index l t) e ∙ index_front seats seat t within) in
        subst (IsSeatOf (length homes) h) same (each t h below at)
    by t h lt at (inr above) =
        let last : n ≡ t = omega (arith, lt, above) in
        let end : length seats ≡ t = omega (arith, lt, above, count) in
        let one : home ≡ h = cc (sym here ∙ ap (slice_get homes) last ∙ at) in
        let same : seat ≡ slice_index more t = sym
        (ap (λ (l : List ℕ). slice_index l t) e ∙ ap (slice_index (seats ++ seat ∷ [])) (sym end)
        ∙ index_last seats seat) in
        subst (IsSeatOf (length homes) h) same (subst (λ (x : Home). IsSeatOf (length homes) x seat) one is)

pub seats_all : (homes : List Home) (n : ℕ) (seats : List ℕ) → n ≡ length homes → length seats ≡ n → Each homes n seats
    → AreSeatsOf homes seats
seats_all homes n seats end count each = record {
  count = count ∙ end;
  each = λ t h at. each t h (let lt = slice_get_within homes t h at in omega (arith, lt, end)) at;
}

-- a slot of its own for one more temporary
pub own_more : (first all more : List Home) (n : ℕ) → all ≡ first ++ own_slots n → more ≡ all ++ Slot n ∷ [] → more
    ≡ first ++ own_slots (n + 1)
own_more first all more n so e =
    let next : suc n ≡ n + 1 = omega arith in
    e ∙ ap (λ (l : List Home). l ++ Slot n ∷ []) so ∙ append_assoc first (own_slots n) (Slot n ∷ [])
    ∙ ap (λ (k : ℕ). first ++ own_slots k) next

-- ---- a window, one temporary after another

-- the seats of the first temporaries in a window
abbrev pub Here : (seats : List ℕ) (from n : ℕ) (here : List ℕ) → Type 0
Here seats from n here =
    (t s : ℕ) → t < n → slice_index seats t ≡ from + s → s < 12 → slice_index here t ≡ s

pub here_more : (seats : List ℕ) (from n seat place : ℕ) (here more : List ℕ) → slice_index seats n ≡ seat
    → ((s : ℕ) → seat ≡ from + s → s < 12 → place ≡ s) → more ≡ here ++ place ∷ [] → length here ≡ n
    → Here seats from n here → (length more ≡ n + 1) × Here seats from (n + 1) more
here_more seats from n seat place here more at is e count each = (
  let a = ap length e in let b = length-append here (place ∷ []) in omega
      (arith, a, b, count),
  λ t s lt there within. by t s lt there within (cases_lt t n),
)
  where
    by : (t s : ℕ) → t < n + 1 → slice_index seats t ≡ from + s → s < 12 → (t < n) ⊎ (n ≤ t) → slice_index more t ≡ s
    by t s lt there within (inl below) =
        let shorter : t < length here = omega (arith, below, count) in
        ap (λ (l : List ℕ). slice_index l t) e ∙ index_front here place t shorter ∙ each t s below there within
    by t s lt there within (inr above) =
        let last : t ≡ n = omega (arith, lt, above) in
        let end : t ≡ length here = omega (arith, lt, above, count) in
        let its : seat ≡ from + s = sym at ∙ ap (slice_index seats) (sym last) ∙ there in
        ap (λ (l : List ℕ). slice_index l t) e ∙ ap (slice_index (here ++ place ∷ [])) end ∙ index_last here place
        ∙ is s its within

pub here_all : (seats : List ℕ) (from n : ℕ) (here : List ℕ) → n ≡ length seats → length here ≡ n
    → Here seats from n here → (t s : ℕ) → slice_index seats t ≡ from + s → s < 12 → slice_index here t ≡ s
here_all seats from n here all count each t s there within =
    ⊎_elim (λ (lt : t < n). each t s lt there within) (λ (le : n ≤ t). past le) (cases_lt t n)
  where
    past : n ≤ t → slice_index here t ≡ s
    past le =
        let behind : length seats ≤ t = omega (arith, le, all) in
        let beyond : length here ≤ t = omega (arith, le, count) in
        let none = index_past seats t behind in
        let nothing = index_past here t beyond in
        omega (arith, none, nothing, there)

pub window_of : (seats : List ℕ) (from n : ℕ) (window : Window) → n ≡ length seats → length window.seats.items ≡ n
    → Here seats from n window.seats.items → (from < 12 → window.registers ≡ true) → IsWindow seats from window
window_of seats from n window all count each first = record {
  here = here_all seats from n window.seats.items all count each;
  registers = first;
}
