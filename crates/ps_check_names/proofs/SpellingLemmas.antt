-- Spellings that are the same are equal.
use Rattle.std.proofs.Common.{◌≡◌, ℕ, Bool, true, false, ◌&&◌, List, [], ◌∷◌, nat_eq, refl, ap, ◌∙◌, eq-eqb, eqb-true}
use Rattle.ps_tree.specs.Names.{same}
use Rattle.ps_check_judgement.proofs.Impossible.{never}

first_same : (x y : ℕ) (xs ys : List ℕ) (b : Bool) → nat_eq x y ≡ b → (b && same xs ys) ≡ true
    → (same xs ys ≡ true → xs ≡ ys) → x ∷ xs ≡ y ∷ ys
first_same x y xs ys true q r rest = ap (λ n. n ∷ xs) (eqb-true x y q) ∙ ap (λ l. y ∷ l) (rest r)
first_same x y xs ys false q r rest = never r

pub same_equal : (s t : List ℕ) → same s t ≡ true → s ≡ t
same_equal [] [] e = refl
same_equal [] (y ∷ ys) e = never e
same_equal (x ∷ xs) [] e = never e
same_equal (x ∷ xs) (y ∷ ys) e = first_same x y xs ys (nat_eq x y) refl e (same_equal xs ys)

pub same_itself : (s : List ℕ) → same s s ≡ true
same_itself [] = refl
same_itself (x ∷ xs) = ap (λ b. b && same xs xs) (eq-eqb x x refl) ∙ same_itself xs
