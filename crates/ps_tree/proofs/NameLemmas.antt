-- Searches for a name.
use Rattle.std.proofs.Common.{◌≡◌, ℕ, ◌+◌, Bool, true, false, ◌||◌, List, [], ◌∷◌, map, position, refl, ap, ◌∙◌, cond}
use Rattle.std.proofs.Common.{Some, is_some}
use Rattle.std.specs.List.{list_any, position_from}
use Rattle.std.proofs.lemmas.Iterator.Adapters.{position_from-zero}
use Rattle.ps_tree.specs.Names.{same, has, place}

pub list_any-map : {A B : Type 0} (f : A → B) (q : B → Bool) (xs : List A) → list_any (λ x. q (f x)) xs ≡ list_any q
    (map f xs)
list_any-map f q [] = refl
list_any-map f q (x ∷ xs) = ap (λ b. q (f x) || b) (list_any-map f q xs)

position_from-map : {A B : Type 0} (f : A → B) (q : B → Bool) (i : ℕ) (xs : List A) → position_from (λ x. q (f x)) i xs
    ≡ position_from q i (map f xs)
position_from-map f q i [] = refl
position_from-map f q i (x ∷ xs) = ap (λ o. cond (q (f x)) (Some i) o) (position_from-map f q (i + 1) xs)

pub position-map : {A B : Type 0} (f : A → B) (q : B → Bool) (xs : List A) → position (λ x. q (f x)) xs
    ≡ position_from q 0 (map f xs)
position-map f q xs = position_from-zero (λ x. q (f x)) xs ∙ position_from-map f q 0 xs

-- what is among the names has a place there
pub place_is : {A : Type 0} (q : A → Bool) (i : ℕ) (xs : List A) → is_some (position_from q i xs) ≡ list_any q xs
place_is q i [] = refl
place_is q i (x ∷ xs) = at (q x) (place_is q (i + 1) xs)
  where
    at : (b : Bool) → is_some (position_from q (i + 1) xs) ≡ list_any q xs → is_some
        (cond b (Some i) (position_from q (i + 1) xs)) ≡ (b || list_any q xs)
    at true e = refl
    at false e = e

pub has_place : (names : List (List ℕ)) (s : List ℕ) → is_some (place names s) ≡ has names s
has_place names s = place_is (same s) 0 names
