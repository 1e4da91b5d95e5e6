-- What the bounds on a program's code require of it: its statements fit, its lines are lines, and its variables have
-- first values.
use Rattle.std.specs.Prelude.{ℕ, ◌<◌, List, [], ◌∷◌, length, Option, Some, None}
use Rattle.ps_tree.specs.Types.{DataType}
use Rattle.ps_tree.specs.Tree.{Routine, Program}
use Rattle.tac_code.specs.declared.code.TheConstants.{NUMBER_LIMIT}
use Rattle.tac_code.specs.Sound.{IsLine}
use Rattle.ps_lower_layout.specs.Shapes.{shape_of}
use Rattle.ps_lower_code.specs.First.{FirstFits}
use Rattle.ps_lower_code.specs.Fits.{StatementsFit}
use Rattle.ps_lower_code.specs.Routines.{scope_of}

-- a byte count that an instruction may hold as an integer
abbrev pub IsSmall : ℕ → Type 0
IsSmall n = n < NUMBER_LIMIT

-- variables have first values, and so has a function's result
abbrev pub VariablesHaveFirst : List DataType → Type 0
VariablesHaveFirst [] = Unit {0}
VariablesHaveFirst (type ∷ rest) = FirstFits (shape_of type) × VariablesHaveFirst rest

abbrev pub ResultHasFirst : Option DataType → Type 0
ResultHasFirst None = Unit {0}
ResultHasFirst (Some type) = FirstFits (shape_of type)

pub record RoutineFormed (program : Program) (r : Routine) : Type 0 where
  pub line : IsLine r.line
  pub result : ResultHasFirst r.result
  pub variables : VariablesHaveFirst r.variables
  pub body : StatementsFit (scope_of program r) [] r.body

abbrev pub RoutinesFormed : Program → List Routine → Type 0
RoutinesFormed program [] = Unit {0}
RoutinesFormed program (r ∷ rest) = RoutineFormed program r × RoutinesFormed program rest

-- a program has a block, and its objects have first values
pub record ProgramFormed (program : Program) : Type 0 where
  pub begins : 0 < length program.routines
  pub routines : RoutinesFormed program program.routines
  pub domains : VariablesHaveFirst program.domains
