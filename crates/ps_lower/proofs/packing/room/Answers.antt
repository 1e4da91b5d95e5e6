use Rattle.std.proofs.Common.{ap, ◌∙◌}
use Rattle.ps_tree.specs.Sizes.{value_count}
use Rattle.ps_tree.specs.View.{type_of}
use Rattle.ps_lower.proofs.Packed.{room_told, no_room_told}
use Rattle.ps_lower.proofs.packing.room.Goals as goal

pub returns-then-count-part : goal.returns-then-count-part
returns-then-count-part c = no_room_told (type_of c.args.whole_ty.now)
    (type_of c.args.part_ty.now) c.args.t c.args.line.number _ _ _ c.trap.result c.trap.new.self c.args.out.now
    c.index_of-whole.ensures c.value_count-count.ensures.value
    (c.value_count-part.ensures.value ∙ ap value_count c.index_of.ensures) c.if-count-part.true c.trap.ensures

pub returns : goal.returns
returns c = room_told (type_of c.args.whole_ty.now)
    (type_of c.args.part_ty.now) c.args.t c.args.line.number _ _ _ _ c.check_room.result c.check_room.new.out
    c.args.out.now
    c.index_of-whole.ensures c.value_count-count.ensures.value
    (c.value_count-part.ensures.value ∙ ap value_count c.index_of.ensures) c.if-count-part.false c.narrow-more.ensures
    c.check_room.ensures
