-- What is answered of the stack that a program needs.
use Rattle.std.specs.Prelude.{◌≡◌, ℕ, List, [], ◌∷◌, ◌++◌, get_or, reverse, sum_by}
use Rattle.std.specs.List.{Contains}
use Rattle.ps_tree.specs.Tree.{Program}
use Rattle.ps_needs_least.specs.Paths.{Path}
use Rattle.ps_needs_least.specs.Least.{IsLeast, HasNoBound}
use Rattle.ps_needs_least.specs.declared.least.Need.{Need}
use Rattle.ps_needs_least.specs.declared.least.Need.TheVariants.{Least, Endless}

-- a path of calls as it is reported: the program block first
abbrev pub IsPath : Program → List ℕ → Type 0
IsPath program rs = Path program (reverse rs)

-- the bytes that the frames of these routines take
abbrev pub Takes : (F : List ℕ) → List ℕ → (bytes : ℕ) → Type 0
Takes F rs bytes = sum_by (λ r. get_or F r 0) rs ≡ bytes

-- the last of these routines also occurs earlier among them
pub record ComesBack (rs : List ℕ) : Type 0 where
  pub before : List ℕ
  pub last : ℕ
  pub whole : rs ≡ before ++ last ∷ []
  pub again : Contains before last

-- The bytes are the least that hold each path, and the reported path takes them all; or no stack holds each path, and
-- the reported path comes back to a routine.
abbrev pub IsAnswer : Program → (F : List ℕ) → Need → Type 0
IsAnswer program F (Least bytes path) = IsLeast program F bytes × IsPath program path.items × Takes F path.items bytes
IsAnswer program F (Endless path) = HasNoBound program F × IsPath program path.items × ComesBack path.items
