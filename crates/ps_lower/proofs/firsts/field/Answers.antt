use Rattle.std.proofs.Common.{◌+◌, ap}
use Rattle.std.proofs.lemmas.Result.{on_ok_weaker}
use Rattle.ps_lower.proofs.Tasks.{field_left}
use Rattle.ps_lower.proofs.firsts.field.Goals as goal

pub returns : goal.returns
returns c =
    on_ok_weaker c.leave-2.result
    (field_left c.args.offset (c.args.offset + c.byte_count.result) c.args.types.now c.in-Some.ty c.in-Some.rest
    c.args.tasks.now.items c.leave.new.tasks.items c.leave-2.new.tasks.items c.in-Some.ensures.cases.0
    (ap (λ n. c.args.offset + n) c.byte_count.ensures) c.in_ok-leave.ensures)
    c.leave-2.ensures
