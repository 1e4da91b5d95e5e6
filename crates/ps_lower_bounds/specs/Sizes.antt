-- How large the routines and objects of a program's code are.
use Rattle.std.specs.Prelude.{◌+◌, ◌*◌, ◌≤◌}
use Rattle.ps_tree.specs.Types.{DataType}
use Rattle.ps_tree.specs.Sizes.{cells}
use Rattle.ps_tree.specs.Counts.{routine_cells, routine_nodes}
use Rattle.ps_tree.specs.Tree.{Routine, Program}
use Rattle.tac_code.specs.Meaning.{size}
use Rattle.ps_lower_code.specs.Programs.{tac_of, object_bytes}

-- A routine's frame, scratch block and temporaries take at most 32 bytes, plus 4 for each of its cells and 64 for each
-- of its nodes.
abbrev pub RoutinesAreBounded : Type 0
RoutinesAreBounded = (program : Program) (r : Routine) → size (tac_of program r) ≤ 32 + 4 * routine_cells r
    + 64 * routine_nodes r

-- An object takes at most 4 bytes for each cell of its type.
abbrev pub ObjectsAreBounded : Type 0
ObjectsAreBounded = (type : DataType) → object_bytes type ≤ 4 * cells type
