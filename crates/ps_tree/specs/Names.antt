-- Spellings among others.
use Rattle.std.specs.Prelude.{ℕ, Bool, List, Option, nat_eq}
use Rattle.std.specs.List.{list_any, position_from}
use Rattle.std.specs.Cmp.Lexicographic.{pointwise}

-- the same spelling
abbrev pub same : List ℕ → List ℕ → Bool
same s t = pointwise nat_eq s t

-- the spelling is among these
abbrev pub has : List (List ℕ) → List ℕ → Bool
has names s = list_any (same s) names

-- the first place where it occurs
abbrev pub place : List (List ℕ) → List ℕ → Option ℕ
place names s = position_from (same s) 0 names
