use Rattle.std.proofs.Common.{refl}
use Rattle.ps_check_declarations.specs.Points.{definition_points}
use Rattle.ps_check_declarations.proofs.Walks.{both_added}
use Rattle.ps_check_declarations.proofs.points.add_definition.Goals as goal

pub returns : goal.returns
unfolding definition_points
returns c = both_added _ _ _ _ _ _ _ _ c.in_ok-add_type.ensures c.add_points.ensures refl
