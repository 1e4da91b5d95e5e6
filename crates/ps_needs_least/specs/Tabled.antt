-- Calls and paths of calls, by the nodes of a program and by their depths.
use Rattle.std.specs.Prelude.{◌≡◌, ℕ, ◌-◌, ◌<◌, ◌≤◌, List, [], length, get_or, Option}
use Rattle.ps_tree.specs.Tree.{Program}
use Rattle.ps_needs_least.specs.declared.uses.Use.{Use}
use Rattle.ps_needs_least.specs.Paths.{MayCall, Path}
use Rattle.ps_needs_least.specs.Nodes.{nodes_of}
use Rattle.ps_needs_least.specs.Settled.{Sound, IsBlocked}

-- what a call of a parameter may call
abbrev pub passed_of : List (List Use) → List Use
passed_of nodes = get_or nodes (length nodes - 1) []

-- in the program that has these nodes, r may call s
abbrev pub Leads : List (List Use) → (r s : ℕ) → Type 0
Leads nodes r s = (program : Program) → nodes ≡ nodes_of program → MayCall program r s

-- a path of calls of the program that has these nodes, the innermost first
abbrev pub IsPathOf : List (List Use) → List ℕ → Type 0
IsPathOf nodes rs = (program : Program) → nodes ≡ nodes_of program → Path program rs

-- The table has the depths of a program's nodes, each of which has a frame, and nothing more follows from it.
pub record Tabled (nodes : List (List Use)) (F : List ℕ) (xs : List (Option ℕ)) : Type 0 where
  pub program : Program
  pub nodes_are : nodes ≡ nodes_of program
  pub frames : length F ≡ length program.routines
  pub positive : (r : ℕ) → r < length F → 1 ≤ get_or F r 0
  pub sound : Sound nodes F xs
  pub blocked : (r : ℕ) → IsBlocked nodes xs r

abbrev pub IsTabled : List (List Use) → List (Option ℕ) → Type 0
IsTabled nodes xs = (F : List ℕ) × Tabled nodes F xs
