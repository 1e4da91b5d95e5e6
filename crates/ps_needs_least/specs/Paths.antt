-- Which routines may call which, and the routines that may be open at one time.
use Rattle.std.specs.Prelude.{◌⊎◌, ℕ, ◌≤◌, List, [], ◌∷◌, get_or, sum_by}
use Rattle.std.specs.List.{Contains}
use Rattle.ps_tree.specs.Tree.{Program, routine_at}
use Rattle.ps_needs_least.specs.declared.uses.Use.{Use}
use Rattle.ps_needs_least.specs.declared.uses.Use.TheVariants.{Called, Passed, ParameterCalled}
use Rattle.ps_needs_least.specs.Uses.{statements_uses}

-- what the block of a routine does with routines
abbrev pub uses : Program → ℕ → List Use
uses program r = statements_uses (routine_at program r).body

-- a routine that is an actual parameter anywhere in the program
abbrev pub IsPassed : Program → ℕ → Type 0
IsPassed program s = (r : ℕ) × Contains (uses program r) (Passed s)

-- The block of r has a call of s, by its name, or one of a parameter, which may be any routine that is passed.
abbrev pub MayCall : Program → (r s : ℕ) → Type 0
MayCall program r s = Contains (uses program r) (Called s)
    ⊎ (Contains (uses program r) ParameterCalled × IsPassed program s)

-- The routines of calls that are open one within another, innermost first: the program block, which is routine 0, is
-- called once, before all others. A routine that calls itself occurs once for each call.
pub data Path (program : Program) : List ℕ → Type 0 where
  program_block : Path program (0 ∷ [])
  call_within : (r s : ℕ) (rest : List ℕ) → Path program (r ∷ rest) → MayCall program r s → Path program (s ∷ r ∷ rest)

-- A stack of S bytes holds the frames of each path, with the sizes that F has by the routines' numbers. There is such a
-- stack if no path comes to a routine again; it is then as large as the largest path.
abbrev pub HoldsAll : Program → (F : List ℕ) → (S : ℕ) → Type 0
HoldsAll program F S = (rs : List ℕ) → Path program rs → sum_by (λ r. get_or F r 0) rs ≤ S
