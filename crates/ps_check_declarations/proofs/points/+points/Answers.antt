use Rattle.std.proofs.Common.{refl}
use Rattle.ps_check_declarations.proofs.Walks.{both_added}
use Rattle.ps_check_declarations.proofs.points.+points.Goals as goal

pub add_array-returns : goal.add_array-returns
add_array-returns t c = both_added _ _ _ _ _ _ _ _ c.in_ok-add_ordinals.ensures c.add_type.ensures refl
