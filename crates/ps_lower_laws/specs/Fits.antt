-- What the lowering needs of a whole program.
use Rattle.std.specs.Prelude.{◌≡◌, ◌<◌, [], ◌∷◌, length}
use Rattle.ps_tree.specs.Tree.{Program, routine_at}
use Rattle.ps_lower_relation.specs.Here.{AreSmall}
use Rattle.ps_lower_calls.specs.Begin.{IsOutermost}
use Rattle.ps_lower_calls.specs.Routines.{RoutinesFit}

pub record ProgramFits (program : Program) : Type 0 where
  -- what every address is below
  pub small : AreSmall program
  -- routine 0 is the program block
  pub begins : 0 < length program.routines
  pub chain : (routine_at program 0).chain ≡ 0 ∷ []
  pub outermost : IsOutermost (routine_at program 0)
  pub routines : RoutinesFit program
