-- The whole pass: words of frames move to temporaries, by plans; then addresses, sums and words that temporaries hold
-- are copied, where they would be computed or loaded again; then tests that can't fail get the number 0 instead of an
-- error's; and then copies are left out, and checks that have the number 0, by plans again.
use Rattle.std.specs.Prelude.{ℕ, suc, List, [], ◌∷◌, length, ◌≤◌}
use Rattle.tac_code.specs.declared.code.Instruction.{Instruction}
use Rattle.tac_code.specs.declared.code.TacRoutine.{TacRoutine}
use Rattle.tac_code.specs.Meaning.{Code}
use Rattle.tac_pass.specs.Walk.{Passed, PassedRoutine, PassedSoFar, ArePassed}
use Rattle.tac_known.specs.Again.{AgainBody, AgainRoutine, IsAgain}
use Rattle.tac_known.specs.Lean.{LeanBody, LeanRoutine, IsLean}

-- a body of a routine, of which a plan makes the one between; that becomes the one with copies, and that the one whose
-- tests that can't fail have no number, of which a plan makes the new one
pub record PassesBody (r : ℕ) (body body' : List Instruction) : Type 0 where
  pub between : List Instruction
  pub copied : List Instruction
  pub cleared : List Instruction
  pub passed : Passed r body between
  pub shorter : length between ≤ length body
  pub again : AgainBody between copied
  pub lean : LeanBody copied cleared
  pub spared : Passed r cleared body'
  pub shorter_yet : length body' ≤ length cleared

pub record PassesRoutine (r : ℕ) (routine routine' : TacRoutine) : Type 0 where
  pub between : TacRoutine
  pub copied : TacRoutine
  pub cleared : TacRoutine
  pub passed : PassedRoutine r routine between
  pub again : AgainRoutine between copied
  pub lean : LeanRoutine copied cleared
  pub spared : PassedRoutine r cleared routine'

-- routines, one for one, with their numbers
abbrev pub OneByOne : (ℕ → TacRoutine → TacRoutine → Type 0) → ℕ → List TacRoutine → List TacRoutine → Type 0
OneByOne Related r [] [] = Unit {0}
OneByOne Related r (x ∷ xs) (y ∷ ys) = Related r x y × OneByOne Related (suc r) xs ys
OneByOne Related r _ _ = ⊥

-- the same for what doesn't depend on the number
abbrev pub Each : (TacRoutine → TacRoutine → Type 0) → ℕ → TacRoutine → TacRoutine → Type 0
Each Related r = Related

-- this many routines of a list, numbered from the first on
pub record PassesSoFar (first : ℕ) (routines : List TacRoutine) (n : ℕ) (routines' : List TacRoutine) : Type 0 where
  pub between : List TacRoutine
  pub copied : List TacRoutine
  pub cleared : List TacRoutine
  pub passed : PassedSoFar first routines n between
  pub again : OneByOne (Each AgainRoutine) first between copied
  pub lean : OneByOne (Each LeanRoutine) first copied cleared
  pub spared : OneByOne PassedRoutine first cleared routines'

-- Plans make the new code of lean code of one with copies, and that one is made of what plans make of the old code.
pub record Passes (old new : Code) : Type 0 where
  pub between : Code
  pub copied : Code
  pub cleared : Code
  pub passed : ArePassed old between
  pub again : IsAgain between copied
  pub lean : IsLean copied cleared
  pub spared : ArePassed cleared new
