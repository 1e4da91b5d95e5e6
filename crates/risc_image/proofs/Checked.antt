-- Rows that were checked one after the other: each is good, and they ascend by a key.
use Rattle.std.proofs.Common.{◌≡◌, ℕ, zero, suc, ◌+◌, ◌-◌, ◌<◌, List, [], ◌∷◌, length, map, get_or, Some, subst, arith}
use Rattle.std.proofs.Common.{◌⊎◌, inl, inr}
use Rattle.std.specs.Prelude.{All, slice_get}
use Rattle.std.specs.List.Sorted.{IsStrictlyIncreasing}
use Rattle.std.proofs.lemmas.Option.{slice_get_within}
use Rattle.std.proofs.lemmas.List.{length-map}
use Rattle.std.proofs.lemmas.Bool.{cases_lt}

-- the rows before row k are good, and ascend
pub record IsGoodBelow {R : Type 0} (P : R → Type 0) (key : R → ℕ) (rows : List R) (k : ℕ) : Type 0 where
  pub each : (j : ℕ) (d : R) → j < k → P (get_or rows j d)
  pub rising : (j : ℕ) → j + 1 < k → get_or (map key rows) j 0 < get_or (map key rows) (j + 1) 0

-- row k, and its key
pub get_or-row : {R : Type 0} (rows : List R) (k : ℕ) (row : R) → slice_get rows k ≡ Some row → (d : R)
    → get_or rows k d ≡ row
get_or-row [] k row e d = absurd cc
get_or-row (x ∷ xs) zero row e d = cc
get_or-row (x ∷ xs) (suc k) row e d = get_or-row xs k row e d

pub get_or-key : {R : Type 0} (key : R → ℕ) (rows : List R) (k : ℕ) (row : R) → slice_get rows k ≡ Some row → get_or
    (map key rows) k 0 ≡ key row
get_or-key key [] k row e = absurd cc
get_or-key key (x ∷ xs) zero row e = cc
get_or-key key (x ∷ xs) (suc k) row e = get_or-key key xs k row e

pub good_none : {R : Type 0} (P : R → Type 0) (key : R → ℕ) (rows : List R) → IsGoodBelow P key rows 0
good_none P key rows = record { each = λ j d lt. absurd (omega arith); rising = λ j lt. absurd (omega arith) }

-- one more row, the first or one that is above the row before it
pub good_more : {R : Type 0} (P : R → Type 0) (key : R → ℕ) (rows : List R) (k : ℕ) (row : R) → IsGoodBelow P key rows k
    → slice_get rows k ≡ Some row → P row
    → ((j : ℕ) → j + 1 ≡ k → get_or (map key rows) j 0 < key row) → IsGoodBelow P key rows (k + 1)
good_more P key rows k row below at good above = record {
  each = λ j d lt. elim (last j (omega arith)) [
    | inl before ↦ below.each j d before
    | inr here ↦ rw (here, get_or-row rows k row at d) good
  ];
  rising = λ j lt. elim (last (j + 1) (omega arith)) [
    | inl before ↦ below.rising j before
    | inr here ↦ rw (here, get_or-key key rows k row at) (above j here)
  ];
}
  where
    last : (j : ℕ) → j < k + 1 → (j < k) ⊎ (j ≡ k)
    last j lt = elim (cases_lt j k) [ inl before ↦ inl before | inr after ↦ inr (omega arith) ]

-- row k is above the row before it
pub above_previous : {R : Type 0} (key : R → ℕ) (rows : List R) (k : ℕ) (before row : R) → slice_get rows (k - 1)
    ≡ Some before → key before < key row
    → (j : ℕ) → j + 1 ≡ k → get_or (map key rows) j 0 < key row
above_previous key rows k before row at lt j next =
    let e : j ≡ k - 1 = omega arith in
    rw (e, get_or-key key rows (k - 1) before at) lt

pub good_all : {R : Type 0} (P : R → Type 0) (key : R → ℕ) (rows : List R) → IsGoodBelow P key rows (length rows)
    → All P rows × IsStrictlyIncreasing (map key rows)
good_all P key rows good = (
  (λ j d lt. good.each j d lt),
  (λ j lt. good.rising j (omega (arith, lt, length-map rows key))),
)

-- a table that is good has no row that is not, and none that is not above the row before it
pub good_row : {R : Type 0} (P : R → Type 0) (rows : List R) (k : ℕ) (row : R) → All P rows → slice_get rows k
    ≡ Some row → P row
good_row P rows k row each at = subst P (get_or-row rows k row at row) (each k row (slice_get_within rows k row at))

pub good_order : {R : Type 0} (key : R → ℕ) (rows : List R) (j k : ℕ) (before row : R) → IsStrictlyIncreasing
    (map key rows) → j + 1 ≡ k
    → slice_get rows j ≡ Some before → slice_get rows k ≡ Some row → key before < key row
good_order key rows j k before row rising next at at' =
    let within : k < length rows = slice_get_within rows k row at' in
    let above : get_or (map key rows) j 0 < get_or (map key rows) (j + 1) 0 = rising j
    (omega (arith, length-map rows key)) in
    let second : get_or (map key rows) (j + 1) 0 ≡ key row = rw next (get_or-key key rows k row at') in
    omega (arith, above, get_or-key key rows j before at, second)
