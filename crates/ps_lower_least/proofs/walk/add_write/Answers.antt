use Rattle.std.proofs.Common.{sym, ap}
use Rattle.ps_tree.specs.View.{write_of}
use Rattle.ps_lower_least.specs.Fewest.{write_fewest}
use Rattle.ps_lower_least.proofs.Gathering.{adds_two}
use Rattle.ps_lower_least.proofs.Arms.{write_is}
use Rattle.ps_lower_least.proofs.walk.add_write.Goals as goal

pub returns-in-Text : goal.returns-in-Text
unfolding write_of
returns-in-Text c = adds_two _ _ _ _ _ _ (sym (ap (λ x. write_fewest (write_of x)) c.in-Text.is))
    c.add_structure.ensures
    c.add_width.ensures

pub returns-in-Integer : goal.returns-in-Integer
returns-in-Integer c = adds_two _ _ _ _ _ _
    (write_is _ _ _ c.in-Integer.is) c.add_expr.ensures c.add_width-in-Integer.ensures
