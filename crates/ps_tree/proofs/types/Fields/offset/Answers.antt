use Rattle.std.proofs.Common.{◌∙◌, ap, min}
use Rattle.ps_tree.specs.Types.{field_list, field_types}
use Rattle.ps_tree.specs.Sizes.{bytes_before}
use Rattle.ps_tree.specs.TypeView.{types_of}
use Rattle.ps_tree.proofs.SizeLemmas.{offset_at, offset_past}
use Rattle.ps_tree.proofs.types.Fields.offset.Goals as goal

pub returns-in-Some : goal.returns-in-Some
returns-in-Some c =
    offset_at (field_list c.self.inside.names (types_of c.self.inside.types.items)) _ _ c.args.number
    c.in-Some.offset.now c.deref.ensures.value c.self.invariant.3 c.in-Some.ensures.lookup.3.0
    (c.in-Some.ensures.lookup.3.1 c.in-Some.offset.now)
    ∙ ap (λ f. min (bytes_before (field_types f) c.args.number) 4294967295) c.self.view_is

pub returns-in-None : goal.returns-in-None
returns-in-None c =
    offset_past (field_list c.self.inside.names (types_of c.self.inside.types.items)) _ _ c.args.number
    c.self.inside.byte_count c.deref.ensures.value c.self.invariant.3 c.in-None.ensures.lookup.3 c.self.invariant.2
    ∙ ap (λ f. min (bytes_before (field_types f) c.args.number) 4294967295) c.self.view_is
