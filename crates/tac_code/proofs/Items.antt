-- The items of a list, by their places.
use Rattle.std.proofs.Common.{◌≡◌, ℕ, zero, suc, ◌+◌, ◌<◌, List, [], ◌∷◌, ◌++◌, length, Some, slice_get, slice_set}
use Rattle.std.proofs.Common.{refl, ap, ◌∙◌, arith}
use Rattle.std.proofs.lemmas.Option.{none-some}

pub there_is : {A : Type 0} (xs : List A) (i : ℕ) → i < length xs → (x : A) × (slice_get xs i ≡ Some x)
there_is [] i l = absurd (omega (arith, l))
there_is (x ∷ xs) zero l = (x, refl)
there_is (x ∷ xs) (suc i) l = there_is xs i (omega (arith, l))

-- an item of the first part of a list, one of the second, and the one behind the first
pub get_stays : {A : Type 0} (xs ys : List A) (i : ℕ) (x : A) → slice_get xs i ≡ Some x → slice_get (xs ++ ys) i
    ≡ Some x
get_stays [] ys i x e = absurd (none-some x e)
get_stays (y ∷ xs) ys zero x e = e
get_stays (y ∷ xs) ys (suc i) x e = get_stays xs ys i x e

pub get_right : {A : Type 0} (xs ys : List A) (i : ℕ) → slice_get (xs ++ ys) (length xs + i) ≡ slice_get ys i
get_right [] ys i = let z : 0 + i ≡ i = omega arith in ap (slice_get ys) z
get_right (x ∷ xs) ys i = let z : suc (length xs) + i ≡ suc (length xs + i) = omega arith
    in ap (slice_get (x ∷ (xs ++ ys))) z ∙ get_right xs ys i

pub end_there : {A : Type 0} (xs : List A) (y : A) → slice_get (xs ++ y ∷ []) (length xs) ≡ Some y
end_there [] y = refl
end_there (z ∷ xs) y = end_there xs y

-- one item put for another leaves as many
pub set_length : {A : Type 0} (xs : List A) (j : ℕ) (y : A) → length (slice_set xs j y) ≡ length xs
set_length [] j y = refl
set_length (z ∷ xs) zero y = refl
set_length (z ∷ xs) (suc j) y = ap suc (set_length xs j y)
