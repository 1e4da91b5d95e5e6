use Rattle.std.proofs.Common.{ap, ◌∙◌, sym}
use Rattle.ps_tree.specs.TypeView.{type_of}
use Rattle.ps_check_names.specs.Regions.{fields_of}
use Rattle.ps_check_names.proofs.LikeLemmas.{alike}
use Rattle.ps_check_names.proofs.wides.is_like.Goals as goal

pub returns-then-x-y : goal.returns-then-x-y
unfolding type_of fields_of
returns-then-x-y c = λ t. alike c.args.ty.now c.args.other.now c.deref.result.now c.deref-then-x-y.result.now
    (ap (λ ty. fields_of (type_of ty)) c.in-Record-Record.is-0 ∙ sym c.deref.ensures)
    (ap (λ ty. fields_of (type_of ty)) c.in-Record-Record.is-1 ∙ sym c.deref-then-x-y.ensures)
    (c.has_names_of.ensures.0 t)
