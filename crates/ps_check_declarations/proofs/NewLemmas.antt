-- Whether a name is among the first of a region.
use Rattle.std.proofs.Common.{◌≡◌, ℕ, zero, suc, ◌+◌, ◌≤◌, Bool, true, false, not, ◌||◌, ◌&&◌, List, [], ◌∷◌, take}
use Rattle.std.proofs.Common.{length, Option, Some, None, refl, sym, ap, ◌∙◌, cond, arith, nat_le, le-leb, zero-add}
use Rattle.std.proofs.lemmas.Bool.{lt-leb}
use Rattle.std.proofs.lemmas.List.{take_all}
use Rattle.std.specs.List.{list_any, position_from}
use Rattle.ps_check_names.specs.Spelling.{same, has, place}
use Rattle.ps_check_declarations.specs.Points.{is_later}

-- a place that is not among the first
abbrev pub at_least : ℕ → Option ℕ → Bool
at_least count None = false
at_least count (Some i) = nat_le count i

module _ {A : Type 0} (q : A → Bool) where
  any_place : (m n : ℕ) (xs : List A) → m ≤ n → list_any q xs ≡ at_least m (position_from q n xs)
  any_place m n [] le = refl
  any_place m n (x ∷ xs) le = at (q x) (any_place m (n + 1) xs (omega (arith, le)))
    where
      at : (b : Bool) → list_any q xs ≡ at_least m (position_from q (n + 1) xs) → (b || list_any q xs) ≡ at_least m
          (cond b (Some n) (position_from q (n + 1) xs))
      at true e = sym (le-leb m n le)
      at false e = e

  any_later : (count n : ℕ) (xs : List A) → (list_any q xs && not (list_any q (take count xs))) ≡ at_least (n + count)
      (position_from q n xs)
  any_later count n [] = refl
  any_later zero n (x ∷ xs) = whole (list_any q (x ∷ xs)) ∙ any_place (n + 0) n (x ∷ xs) (omega arith)
    where
      whole : (b : Bool) → (b && not false) ≡ b
      whole true = refl
      whole false = refl
  any_later (suc count) n (x ∷ xs) = at (q x) (any_later count (n + 1) xs)
    where
      at : (b : Bool) → (list_any q xs && not (list_any q (take count xs))) ≡ at_least (n + 1 + count)
          (position_from q (n + 1) xs) → ((b || list_any q xs) && not (b || list_any q (take count xs))) ≡ at_least
          (n + suc count) (cond b (Some n) (position_from q (n + 1) xs))
      at true e = sym (lt-leb (n + suc count) n (omega arith))
      at false e = e ∙ (let k : n + 1 + count ≡ n + suc count = omega arith
          in ap (λ m. at_least m (position_from q (n + 1) xs)) k)

pub later_place : (names : List (List ℕ)) (count : ℕ) (s : List ℕ) (o : Option ℕ) → o ≡ place names s
    → is_later names count s ≡ at_least count o
later_place names count s o e = any_later (same s) count 0 names ∙ ap (λ m. at_least m (place names s)) (zero-add count)
    ∙ ap (at_least count) (sym e)

both_not : (b : Bool) → (b && not b) ≡ false
both_not true = refl
both_not false = refl

-- nothing comes after the last name
pub none_later : (names : List (List ℕ)) (count : ℕ) (s : List ℕ) → length names ≤ count → is_later names count s
    ≡ false
none_later names count s le = ap (λ l. has names s && not (has l s)) (take_all count names le) ∙ both_not (has names s)
