-- Bytes padded with zeros.
use Rattle.std.proofs.Common.{◌≡◌, ℕ, ◌-◌, ◌≤◌, ◌%◌, List, [], ◌∷◌, ◌++◌, length, take, refl, ap, ◌∙◌, arith}
use Rattle.ps_tree.specs.Characters.{filled}

-- zeros after the given number of bytes, up to whole words
abbrev pub zeros : ℕ → List ℕ
zeros n = take ((4 - n % 4) % 4) (0 ∷ 0 ∷ 0 ∷ [])

pub filled_is : (l : List ℕ) → l ++ zeros (length l) ≡ filled l
filled_is [] = refl
filled_is (a ∷ []) = refl
filled_is (a ∷ b ∷ []) = refl
filled_is (a ∷ b ∷ c ∷ []) = refl
filled_is (a ∷ b ∷ c ∷ d ∷ rest) =
    let k : (4 - length (a ∷ b ∷ c ∷ d ∷ rest) % 4) % 4 ≡ (4 - length rest % 4) % 4 = omega arith in
    ap (λ n. a ∷ b ∷ c ∷ d ∷ (rest ++ take n (0 ∷ 0 ∷ 0 ∷ []))) k ∙ ap (λ l. a ∷ b ∷ c ∷ d ∷ l) (filled_is rest)

-- the bytes that were filled come before the zeros
pub filled_from : (l : List ℕ) → take (length l) (filled l) ≡ l
filled_from [] = refl
filled_from (a ∷ []) = refl
filled_from (a ∷ b ∷ []) = refl
filled_from (a ∷ b ∷ c ∷ []) = refl
filled_from (a ∷ b ∷ c ∷ d ∷ rest) = ap (λ l. a ∷ b ∷ c ∷ d ∷ l) (filled_from rest)

pub filled_longer : (l : List ℕ) → length l ≤ length (filled l)
filled_longer [] = omega arith
filled_longer (a ∷ []) = omega arith
filled_longer (a ∷ b ∷ []) = omega arith
filled_longer (a ∷ b ∷ c ∷ []) = omega arith
filled_longer (a ∷ b ∷ c ∷ d ∷ rest) = let h = filled_longer rest in omega (arith, h)
