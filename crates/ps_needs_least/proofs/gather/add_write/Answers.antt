use Rattle.std.proofs.Common.{sym, ap}
use Rattle.ps_tree.specs.View.{write_of}
use Rattle.ps_needs_least.specs.Uses.{write_uses}
use Rattle.ps_needs_least.proofs.Gathering.{adds_two}
use Rattle.ps_needs_least.proofs.Arms.{write_is}
use Rattle.ps_needs_least.proofs.gather.add_write.Goals as goal

pub returns-in-Text : goal.returns-in-Text
unfolding write_of
returns-in-Text c = adds_two _ _ _ _ _ _ (sym (ap (λ x. write_uses (write_of x)) c.in-Text.is)) c.add_structure.ensures
    c.add_width.ensures

pub returns-in-Integer : goal.returns-in-Integer
returns-in-Integer c = adds_two _ _ _ _ _ _
    (write_is _ _ _ c.in-Integer.is) c.add_expr.ensures c.add_width-in-Integer.ensures
