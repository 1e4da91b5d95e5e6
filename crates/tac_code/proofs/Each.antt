-- A fact of each element of a list, found element by element.
use Rattle.std.proofs.Common.{◌≡◌, ℕ, ◌+◌, ◌<◌, ◌≤◌, ◌⊎◌, Bool, true, false, IsTrue, nat_lt, inl, inr, List, length}
use Rattle.std.proofs.Common.{get_or, slice_get, Some, ap, sym, subst, ◌∙◌, refl, arith}
use Rattle.std.proofs.lemmas.Option.{slice_get_read, slice_get_within, same_Some}
use Rattle.std.proofs.lemmas.Bool.{ltb-true, ltb-false}
use Rattle.tac_code.specs.Sound.{Each}

-- each of the first elements
abbrev pub EachBelow : {X : Type 0} → (ℕ → X → Type 0) → List X → ℕ → Type 0
EachBelow {X} P xs k = (i : ℕ) (x : X) → i < k → slice_get xs i ≡ Some x → P i x

pub each_below_none : {X : Type 0} (P : ℕ → X → Type 0) (xs : List X) → EachBelow P xs 0
each_below_none P xs = λ i x lt _. absurd (omega arith)

pub each_of_below : {X : Type 0} (P : ℕ → X → Type 0) (xs : List X) (k : ℕ) → length xs ≤ k → EachBelow P xs k
    → Each P xs
each_of_below P xs k long h =
    λ i x e. let within : i < length xs = slice_get_within xs i x e in h i x (omega arith) e

pub below_or_at : (i k : ℕ) → i < k + 1 → (i < k) ⊎ (i ≡ k)
below_or_at i k lt = nat_cases (nat_lt i k) refl
  where
    nat_cases : (b : Bool) → nat_lt i k ≡ b → (i < k) ⊎ (i ≡ k)
    nat_cases true e = inl (ltb-true i k e)
    nat_cases false e = inr (let le : k ≤ i = ltb-false i k e in omega arith)

pub each_below_more : {X : Type 0} (P : ℕ → X → Type 0) (xs : List X) (k : ℕ) (x : X) → slice_get xs k ≡ Some x
    → EachBelow P xs k → P k x → EachBelow P xs (k + 1)
each_below_more {X} P xs k x here h p = λ i y lt e. at_or_below i y lt e (split i lt)
  where
    split : (i : ℕ) → i < k + 1 → (i < k) ⊎ (i ≡ k)
    split i lt = below_or_at i k lt

    at_or_below : (i : ℕ) (y : X) → i < k + 1 → slice_get xs i ≡ Some y → (i < k) ⊎ (i ≡ k) → P i y
    at_or_below i y lt e (inl below) = h i y below e
    at_or_below i y lt e (inr at) =
        let same : slice_get xs k ≡ Some y = ap (λ (j : ℕ). slice_get xs j) (sym at) ∙ e in let eq : x
        ≡ y = same_Some x y (sym here ∙ same) in subst (λ (j : ℕ). P j y) (sym at)
        (subst (λ (z : X). P k z) eq p)

-- one more element, whose fact a test showed
pub each_below_next : {X : Type 0} (P : ℕ → X → Type 0) (xs : List X) (k : ℕ) (x : X) → k < length xs → x
    ≡ get_or xs k x → EachBelow P xs k → (b : Bool) → b ≡ true → (IsTrue b → P k x) → EachBelow P xs (k + 1)
each_below_next P xs k x lt at h b e p =
    each_below_more P xs k x (slice_get_read xs (length xs) k x refl lt at) h (p e)

pub all_told : {X : Type 0} (P : ℕ → X → Type 0) (xs : List X) (k : ℕ) → length xs ≤ k → EachBelow P xs k
    → (IsTrue true → Each P xs) × (Each P xs → IsTrue true)
all_told P xs k long h = (λ _. each_of_below P xs k long h, λ _. refl)

-- a test that failed refutes what needs it
pub refuted : (S A : Type 0) (b : Bool) → b ≡ false → (IsTrue b → A) × (A → IsTrue b) → (S → A) → (IsTrue false → S)
    × (S → IsTrue false)
refuted S A b e told needs = (λ h. absurd (cc), λ s. sym e ∙ told.1 (needs s))

-- the same where the test's own value is given
pub refuted_by : (S A : Type 0) (b : Bool) → b ≡ false → (IsTrue b → A) × (A → IsTrue b) → (S → A) → (IsTrue b → S)
    × (S → IsTrue b)
refuted_by S A b e told needs = (λ h. absurd (let no : true ≡ false = sym h ∙ e in cc), λ s. told.1 (needs s))
