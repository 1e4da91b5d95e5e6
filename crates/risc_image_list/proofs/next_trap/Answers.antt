use Rattle.std.proofs.Common.{sym}
use Rattle.risc_image_list.proofs.Between.{between}
use Rattle.risc_image_list.proofs.next_trap.Goals as goal

pub returns-then-is_before_next : goal.returns-then-is_before_next
returns-then-is_before_next c =
    let behind = c.is_behind.ensures c.if-is_behind.true in
    sym (between c.args.view.now.traps c.args.last.now c.args.link behind.0 c.requires behind.1 behind.2
    (c.is_before_next.ensures c.if-is_before_next.true))
