use Rattle.std.proofs.Common.{sym, ap}
use Rattle.ps_tree.specs.View.{width_of}
use Rattle.ps_lower_least.specs.Fewest.{width_fewest}
use Rattle.ps_lower_least.proofs.Gathering.{adds_none, adds_as}
use Rattle.ps_lower_least.proofs.walk.add_width.Goals as goal

pub returns-in-Default : goal.returns-in-Default
unfolding width_of
returns-in-Default c = adds_as _ _ _ _ (sym (ap (λ x. width_fewest (width_of x)) c.in-Default.is)) (adds_none _)

pub returns-in-Given : goal.returns-in-Given
unfolding width_of
returns-in-Given c = adds_as _ _ _ _ (sym (ap (λ x. width_fewest (width_of x)) c.in-Given.is)) c.add_expr.ensures
