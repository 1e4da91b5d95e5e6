-- Lists to which one element more is added.
use Rattle.std.proofs.Common.{◌≡◌, ◌<◌, ℕ, List, [], ◌∷◌, ◌++◌, get_or, length, subst, sym}
use Rattle.std.specs.Prelude.{All}
use Rattle.std.proofs.lemmas.List.Elements.{All-append, All-cons, All-get_or, All-nil}

pub one_more : {X : Type 0} (P : X → Type 0) (xs ys : List X) (x : X) → ys ≡ xs ++ x ∷ [] → All P xs → P x → All P ys
one_more P xs ys x e all one = subst (All P) (sym e) (All-append P xs (x ∷ []) all (All-cons P x [] one (All-nil P)))

pub none : {X : Type 0} (P : X → Type 0) (xs : List X) → xs ≡ [] → All P xs
none P xs e = subst (All P) (sym e) (All-nil P)

-- what all elements are, each one is
pub each_is : {X : Type 0} (P : X → Type 0) (xs : List X) (i : ℕ) (x : X) → (i < length xs) × (x ≡ get_or xs i x)
    → All P xs → P x
each_is P xs i x at all = subst P (sym at.1) (All-get_or P xs i x at.0 all)
