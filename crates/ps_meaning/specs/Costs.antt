-- Bounds on what compiled code may cost (this project's bounds).
use Rattle.std.specs.Prelude.{ℕ, ◌+◌, ◌*◌, ◌<◌, ◌≤◌, List, length, get_or}
use Rattle.ps_tree.specs.Tree.{Program, routine_at, domain_at}
use Rattle.ps_tree.specs.Sizes.{cells}
use Rattle.ps_tree.specs.Counts.{routine_cells, routine_nodes}

-- the frame bytes of each routine, bounded by its cells and nodes, and the object bytes of each pointer type, bounded
-- by the cells of its domain type
pub record Bounded (program : Program) (F G : List ℕ) : Type 0 where
  pub frames : (r : ℕ) → r < length program.routines → (4 ≤ get_or F r 0)
      × (get_or F r 0 ≤ 320 + 4 * routine_cells (routine_at program r) + 64 * routine_nodes (routine_at program r))
  pub objects : (t : ℕ) → t < length program.domains → (4 ≤ get_or G t 0)
      × (get_or G t 0 ≤ 4 * cells (domain_at program t) + 4)
