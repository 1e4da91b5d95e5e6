-- Tables of depths while they are filled: that of a node is what it and the calls within it take at most.
use Rattle.std.specs.Prelude.{◌≡◌, ℕ, ◌+◌, ◌-◌, ◌*◌, ◌<◌, ◌≤◌, nat_lt, max, if◌then◌else◌, List, [], ◌∷◌, length}
use Rattle.std.specs.Prelude.{get_or, Option, Some, None}
use Rattle.ps_needs_least.specs.declared.uses.Use.{Use}
use Rattle.ps_needs_least.specs.declared.uses.Use.TheVariants.{Called, Passed, ParameterCalled}

-- The depth of what a use calls. The last in the table is that of the parameters; if there is no routine, nothing is
-- called.
abbrev pub depth_of : List (Option ℕ) → Use → Option ℕ
depth_of xs (Called s) = if nat_lt (s + 1) (length xs) then get_or xs s None else Some 0
depth_of xs ParameterCalled = get_or xs (length xs - 1) None
depth_of xs (Passed s) = Some 0

abbrev pub larger : Option ℕ → Option ℕ → Option ℕ
larger (Some a) (Some b) = Some (max a b)
larger (Some a) None = None
larger None b = None

-- the greatest of the depths, if each is known
abbrev pub dearest : List (Option ℕ) → List Use → Option ℕ
dearest xs [] = Some 0
dearest xs (u ∷ us) = larger (depth_of xs u) (dearest xs us)

-- how many nodes have no depth yet
abbrev pub undone : List (Option ℕ) → ℕ
undone [] = 0
undone (Some d ∷ xs) = undone xs
undone (None ∷ xs) = 1 + undone xs

-- A node that has a depth has the depths of all that it calls below it. Each node may take four gibibytes.
pub record Sound (nodes : List (List Use)) (F : List ℕ) (xs : List (Option ℕ)) : Type 0 where
  pub count : length xs ≡ length nodes
  pub settled : (r d : ℕ) → get_or xs r None ≡ Some d → (m : ℕ) × (dearest xs (get_or nodes r []) ≡ Some m)
      × (d ≡ get_or F r 0 + m)
  pub room : (r d : ℕ) → get_or xs r None ≡ Some d → d + undone xs * 4294967296 ≤ length xs * 4294967296

-- a node without a depth calls one without a depth
abbrev pub IsBlocked : List (List Use) → List (Option ℕ) → ℕ → Type 0
IsBlocked nodes xs r = r < length xs → get_or xs r None ≡ None → dearest xs (get_or nodes r []) ≡ None
