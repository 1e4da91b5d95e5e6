use Rattle.std.proofs.Common.{refl}
use Rattle.ps_check_declarations.specs.Points.{block_points}
use Rattle.ps_check_declarations.proofs.Walks.{added_both, both_added}
use Rattle.ps_check_declarations.proofs.points.add_block.Goals as goal

pub returns : goal.returns
unfolding block_points
returns c = both_added _ _ _ _ _ _ _ _ (added_both _ _ _ _ _ _ _ c.in_ok-add_constants.ensures
    c.in_ok-add_definitions.ensures refl) c.add_variables.ensures refl
