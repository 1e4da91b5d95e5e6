-- What the lowering needs of a routine that is called.
use Rattle.std.specs.Prelude.{ℕ, ◌<◌, [], length, Option, Some, None}
use Rattle.ps_tree.specs.Types.{DataType}
use Rattle.ps_tree.specs.Tree.{Routine, Program, routine_at}
use Rattle.ps_lower_layout.specs.Shapes.{shape_of, Whole}
use Rattle.ps_lower_layout.specs.Paths.{Sort}
use Rattle.ps_lower_code.specs.Fits.{SortOf, StatementsFit}
use Rattle.ps_lower_code.specs.Routines.{scope_of}
use Rattle.ps_lower_code.specs.First.{FirstFits}
use Rattle.ps_lower_calls.specs.Binding.{FirstsFit}

-- a result is one word
abbrev pub ResultFits : Option DataType → Type 0
ResultFits None = Unit {0}
ResultFits (Some type) = (sort : Sort) × SortOf (Whole (shape_of type)) sort × FirstFits (shape_of type)

-- its result and its variables have first values, and its statements fit
pub record RoutineFits (program : Program) (r : Routine) : Type 0 where
  pub result : ResultFits r.result
  pub variables : FirstsFit r.variables
  pub body : StatementsFit (scope_of program r) [] r.body

abbrev pub RoutinesFit : Program → Type 0
RoutinesFit program = (r : ℕ) → r < length program.routines → RoutineFits program (routine_at program r)
