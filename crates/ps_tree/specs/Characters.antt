-- Strings as constants of the code.
use Rattle.std.specs.Prelude.{ℕ, List, [], ◌∷◌}

-- bytes padded with zeros to whole words
abbrev pub filled : List ℕ → List ℕ
filled [] = []
filled (a ∷ []) = a ∷ 0 ∷ 0 ∷ 0 ∷ []
filled (a ∷ b ∷ []) = a ∷ b ∷ 0 ∷ 0 ∷ []
filled (a ∷ b ∷ c ∷ []) = a ∷ b ∷ c ∷ 0 ∷ []
filled (a ∷ b ∷ c ∷ d ∷ rest) = a ∷ b ∷ c ∷ d ∷ filled rest
