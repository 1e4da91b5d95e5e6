-- Lists of one and of three items, as slice patterns match them.
use Rattle.std.proofs.Common.{◌≡◌, ◌<◌, ◌≤◌, List, [], ◌∷◌, length, get_or, arith}

pub one_item : {A : Type 0} (xs : List A) (a : A) → 1 ≤ length xs → length xs < 2 → a ≡ get_or xs 0 a → xs ≡ a ∷ []
one_item [] a low high e = absurd (let k : ⊥ = omega (arith, low) in k)
one_item (x ∷ []) a low high e = cc
one_item (x ∷ y ∷ rest) a low high e = absurd (let k : ⊥ = omega (arith, high) in k)

pub three_items : {A : Type 0} (xs : List A) (a b c : A) → 3 ≤ length xs → length xs < 4 → a ≡ get_or xs 0 a → b
    ≡ get_or xs 1 b → c ≡ get_or xs 2 c → xs ≡ a ∷ b ∷ c ∷ []
three_items [] a b c low high e f g = absurd (let k : ⊥ = omega (arith, low) in k)
three_items (x ∷ []) a b c low high e f g = absurd (let k : ⊥ = omega (arith, low) in k)
three_items (x ∷ y ∷ []) a b c low high e f g = absurd (let k : ⊥ = omega (arith, low) in k)
three_items (x ∷ y ∷ z ∷ []) a b c low high e f g = cc
three_items (x ∷ y ∷ z ∷ w ∷ rest) a b c low high e f g = absurd (let k : ⊥ = omega (arith, high) in k)
