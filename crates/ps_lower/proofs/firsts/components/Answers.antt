use Rattle.std.proofs.lemmas.Result.{on_ok_weaker}
use Rattle.ps_tree.specs.Sizes.{value_count}
use Rattle.ps_tree.specs.View.{type_of}
use Rattle.ps_lower_layout.specs.Shapes.{shape_of}
use Rattle.ps_lower.proofs.Tasks.{nothing_left, component_left}
use Rattle.ps_lower.proofs.firsts.components.Goals as goal

pub returns-then-whole-eq0 : goal.returns-then-whole-eq0
returns-then-whole-eq0 c = nothing_left c.args.offset
    (value_count c.args.index) c.byte_count-each.result c.array_bytes-whole.result
    (shape_of (type_of c.args.component.now)) c.args.tasks.now.items c.byte_count-each.ensures
    c.array_bytes-whole.ensures c.if-whole-eq0.true

pub returns : goal.returns
returns c =
    on_ok_weaker c.leave-2.result
    (component_left c.args.offset (value_count c.args.index) c.byte_count-each.result c.array_bytes-whole.result
    c.args.component c.args.tasks.now.items c.leave.new.tasks.items c.leave-2.new.tasks.items
    c.byte_count-each.ensures c.array_bytes-whole.ensures c.if-whole-eq0.false c.in_ok-leave.ensures)
    c.leave-2.ensures
