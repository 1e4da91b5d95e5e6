-- The program block.
use Rattle.std.specs.Prelude.{◌≡◌, true, None}
use Rattle.ps_tree.specs.Tree.{no_formal, Routine}
use Rattle.ps_lower_layout.specs.Frames.{is_program_block}

-- what the program block is: no formal parameters and no result
pub record IsOutermost (r : Routine) : Type 0 where
  pub block : is_program_block r.chain ≡ true
  pub formals : r.formals ≡ no_formal
  pub result : r.result ≡ None
