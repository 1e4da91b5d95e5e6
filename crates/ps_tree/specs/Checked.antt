-- The view of a checked program.
use Rattle.std.specs.Prelude.{List}
use Rattle.ps_tree.specs.declared.tree.statements.Routine.{Routine}
use Rattle.ps_tree.specs.declared.types.Ty.{Ty}
use Rattle.ps_tree.specs.Tree.{Program}
use Rattle.ps_tree.specs.View.{program_of}

-- its routines and its domain types, as the program has them
pub record Parts : Type 0 where
  pub routines : List Routine
  pub domains : List Ty

-- the program that they denote
abbrev pub program_in : Parts → Program
program_in parts = program_of parts.routines parts.domains
