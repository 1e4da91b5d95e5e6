-- What keeps the numbers in a program's code small: the program is within the limits, and its tree is formed.
use Rattle.std.specs.Prelude.{◌≡◌, true}
use Rattle.ps_tree.specs.Counts.{is_within_limits}
use Rattle.ps_tree.specs.Tree.{Program}
use Rattle.ps_lower_bounds.specs.Forms.{ProgramFormed}

pub record IsFormed (program : Program) : Type 0 where
  pub within_limits : is_within_limits program ≡ true
  pub formed : ProgramFormed program
