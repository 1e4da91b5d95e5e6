use Rattle.ps_lower.proofs.Bounding.{checked_made}
use Rattle.ps_lower.proofs.sets.check_set.Goals as goal

pub returns : goal.returns
returns c =
    checked_made c.args.t c.args.x c.args.low.now c.args.high.now c.args.line.number c.holds_all.result c.trap.result
    c.trap.new.self c.branch-out.new.self c.outside.new.out c.literal.new.self c.args.out.now
    c.holds_all.ensures c.if-holds_all.false c.in_ok-literal.ensures c.in_ok-outside.ensures c.in_ok-branch.ensures
    c.trap.ensures
