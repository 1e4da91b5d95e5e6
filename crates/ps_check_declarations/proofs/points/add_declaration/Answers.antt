use Rattle.std.proofs.Common.{sym, ap, ◌++◌}
use Rattle.ps_check_declarations.specs.Points.{type_points, variables_points}
use Rattle.ps_check_declarations.proofs.Walks.{both_added}
use Rattle.ps_check_declarations.proofs.points.add_declaration.Goals as goal

pub returns : goal.returns
unfolding variables_points
returns c = both_added _ _ _ _ _ _ _ _ c.in_ok-add_type.ensures c.add_points.ensures
    (ap (λ l. type_points c.args.declaration.now.ty ++ l) (sym c.as_slice.ensures))
