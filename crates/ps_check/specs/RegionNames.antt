-- The names of a block's region are the spellings of its defining points, each once (6.2.2.1, 6.2.2.7).
use Rattle.std.specs.Prelude.{◌≡◌, ℕ, true, false, List, [], ◌∷◌, ◌++◌, length, map, Contains}
use Rattle.ps_check_judgement.specs.Judged.{Yes}
use Rattle.ps_check_names.specs.Spelling.{spelled, has}
use Rattle.ps_check_names.specs.Regions.{Region, Context}
use Rattle.ps_check_declarations.specs.Points.{block_points}
use Rattle.ps_check.specs.Readings.{RoutineReading, BlockLayer, Start, Gathered, Done}
use Rattle.ps_check.specs.Forwards.{block_names}
use Rattle.ps_check.specs.Blocks.{block_step}

-- the fact holds of each
abbrev pub Each : {A : Type 0} → (A → Type 0) → List A → Type 0
Each P [] = Unit {0}
Each P (x ∷ xs) = P x × Each P xs

-- no name comes after another with its spelling
abbrev pub AreApart : List (List ℕ) → Type 0
AreApart names = (before after : List (List ℕ)) (s : List ℕ) → names ≡ before ++ s ∷ after → has before s ≡ false

-- the name is that of a routine of these
pub record IsOfRoutine (text : List ℕ) (rs : List RoutineReading) (s : List ℕ) : Type 0 where
  pub routine : RoutineReading
  pub among : Contains rs routine
  pub spelling : s ≡ spelled text routine.name

-- All names of a block's region, after some that come before its own: those of the formal parameters, or of a program
-- heading's files.
pub record AreNames (text : List ℕ) (b : BlockLayer) (first all : List (List ℕ)) : Type 0 where
  pub routines : List (List ℕ)
  -- those of constants, types and variables, in the order in which their definitions end, and then those of routines
  pub are : all ≡ (first ++ map (spelled text) (block_points b.constants b.types b.variables)) ++ routines
  pub of_routines : Each (IsOfRoutine text b.routines) routines
  -- each routine's name is present
  pub every_routine : Each (λ r. has all (spelled text r.name) ≡ true) b.routines
  -- a name has one defining point in the region
  pub apart : AreApart first → AreApart all

-- The names of an accepted block's region: each of its points was new where its definition is. The names that come
-- before its own have their meanings.
abbrev pub NamesArePoints : Type 0
NamesArePoints = (c : Context) (b : BlockLayer) (Γ : List Region) (s : Start) (g : Gathered) (d : Done) → length s.known
    ≡ length s.names → block_step c b Γ s g ≡ Yes d → AreNames c.text b s.names (block_names c.text b s.names)
