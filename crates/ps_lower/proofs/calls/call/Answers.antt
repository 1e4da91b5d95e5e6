use Rattle.std.proofs.Common.{◌∙◌}
use Rattle.ps_tree.specs.View.{arguments_of}
use Rattle.ps_lower.specs.Levels.{scope_of}
use Rattle.ps_lower.proofs.Handing.{call_told}
use Rattle.ps_lower.proofs.calls.call.Goals as goal

pub returns : goal.returns
returns c =
    call_told (scope_of c.args.level.now) (arguments_of c.args.arguments.now) c.args.callee.routine c.args.callee.up
    c.args.line.number c.args.d
    c.args.to c.link_temporary-t.result c.deref.result.now c.call.result c.call.new.self c.link.new.out
    c.args.out.now
    c.link_temporary-t.ensures.value c.in_ok-link.ensures
    (c.deref.ensures.value ∙ c.in_ok-operands.ensures) c.call.ensures
