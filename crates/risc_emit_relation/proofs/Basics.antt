-- Lists with an element changed, functions with one value changed, tests.
use Rattle.risc_emit_relation.specs.Changes.{update}
use Rattle.std.proofs.Common.{◌≡◌, ◌≢◌, ℕ, zero, suc, ◌<◌, false, nat_eq, List, [], ◌∷◌}
use Rattle.std.proofs.Common.{length, Some, slice_get, slice_set, refl, sym, ap, subst, arith}
use Rattle.tac_code.proofs.Numbers.{eq_same}

pub eqb_other : (a b : ℕ) → a ≢ b → nat_eq a b ≡ false
eqb_other a b ne = grind arith

pub update_same : (f : ℕ → ℕ) (a w : ℕ) → update a w f a ≡ w
update_same f a w = rw (eq_same a) refl

pub update_at : (f : ℕ → ℕ) (a w k : ℕ) → k ≡ a → update a w f k ≡ w
update_at f a w k e = subst (λ j. update a w f j ≡ w) (sym e) (update_same f a w)

pub update_other : (f : ℕ → ℕ) (a w k : ℕ) → k ≢ a → update a w f k ≡ f k
update_other f a w k ne = rw (eqb_other k a ne) refl

pub get_set_same : {X : Type 0} (xs : List X) (i : ℕ) (v : X) → i < length xs → slice_get (slice_set xs i v) i ≡ Some v
get_set_same [] i v h = absurd (omega arith)
get_set_same (x ∷ xs) zero v h = refl
get_set_same (x ∷ xs) (suc i) v h = get_set_same xs i v (omega arith)

pub get_set_other : {X : Type 0} (xs : List X) (i j : ℕ) (v : X) → j ≢ i → slice_get (slice_set xs i v) j
    ≡ slice_get xs j
get_set_other [] i j v h = refl
get_set_other (x ∷ xs) zero zero v h = absurd (h refl)
get_set_other (x ∷ xs) zero (suc j) v h = refl
get_set_other (x ∷ xs) (suc i) zero v h = refl
get_set_other (x ∷ xs) (suc i) (suc j) v h = get_set_other xs i j v (λ e. h (ap suc e))
