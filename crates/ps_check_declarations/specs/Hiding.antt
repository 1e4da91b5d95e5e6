-- The names that hide others at a place, in one list. A name that isn't in it is hidden by none of the regions that
-- enclose the place, however many there are.
use Rattle.std.specs.Prelude.{ℕ, Bool, List, [], ◌∷◌, IsTrue}
use Rattle.std.specs.List.{list_any}
use Rattle.ps_check_names.specs.Spelling.{has}
use Rattle.ps_check_declarations.specs.Points.{add_name}
use Rattle.ps_check_declarations.specs.Denoters.{Hidden}

-- one of the regions that enclose a place has the name
abbrev pub hides : Hidden → List ℕ → Bool
hides hidden s = list_any (λ own. has own.0 s) hidden

-- a list has each of these names
pub record HasAll (hiding names : List (List ℕ)) : Type 0 where
  pub each : (s : List ℕ) → IsTrue (has names s) → IsTrue (has hiding s)

-- a list has each name of these regions
pub record Covers (hiding : List (List ℕ)) (hidden : Hidden) : Type 0 where
  pub each : (s : List ℕ) → IsTrue (hides hidden s) → IsTrue (has hiding s)

-- the list in one more region: its names are added, each once
unfoldable pub hiding_within : (hiding names : List (List ℕ)) → List (List ℕ)
hiding_within hiding [] = hiding
hiding_within hiding (s ∷ rest) = hiding_within (add_name hiding s) rest
