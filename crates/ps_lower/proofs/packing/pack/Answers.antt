use Rattle.std.proofs.Common.{true, ap, ◌∙◌}
use Rattle.ps_tree.specs.Sizes.{value_count}
use Rattle.ps_tree.specs.View.{type_of, expr_of, place_of}
use Rattle.ps_lower.specs.Levels.{scope_of, site_of}
use Rattle.ps_lower.proofs.Packed.{held_told, pack_made}
use Rattle.ps_lower.proofs.packing.pack.Goals as goal

pub returns : goal.returns
returns c =
    pack_made (scope_of c.args.level.now) (place_of c.args.from.place.now) (place_of c.args.to.place.now) (expr_of
    c.args.index.now) (type_of c.args.from.ty.now) (type_of c.args.to.ty.now) c.args.line.number c.args.d
    c.narrow-count.result c.held-a.result c.held-b.result c.held-c.result c.even_above.result (site_of
    c.in_ok-first.first) (site_of c.in_ok-second.second) c.components.result c.components.new.out c.address.new.out
    c.room.new.out c.place-2.new.out c.component.new.out c.value.new.out c.place.new.out c.args.out.now
    c.held-a.ensures.value (held_told c.held-a.result c.held-b.result c.held-b.ensures.value)
    (held_told c.held-b.result c.held-c.result c.held-c.ensures.value) c.even_above.ensures.value
    (c.narrow-count.ensures ∙ c.value_count.ensures.value ∙ ap value_count c.index_of.ensures)
    c.in_ok-first.ensures.code c.in_ok-first.ensures.site c.in_ok-value.ensures c.in_ok-component.ensures
    c.in_ok-second.ensures.code c.in_ok-second.ensures.site c.in_ok-room.ensures c.in_ok-address.ensures
    (c.components.ensures true)
