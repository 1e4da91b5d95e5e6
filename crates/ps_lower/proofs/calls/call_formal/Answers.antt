use Rattle.std.proofs.Common.{◌∙◌}
use Rattle.ps_tree.specs.View.{arguments_of}
use Rattle.ps_lower.specs.Levels.{scope_of}
use Rattle.ps_lower.proofs.Handing.{call_formal_told}
use Rattle.ps_lower.proofs.calls.call_formal.Goals as goal

pub returns : goal.returns
returns c =
    call_formal_told (scope_of c.args.level.now)
    (arguments_of c.args.arguments.now) c.args.callee.up c.args.callee.index
    c.args.line.number
    c.args.d c.args.to c.link_temporary-t.result c.beside.result c.deref.result.now c.call_value.result
    c.call_value.new.self c.formal.new.out c.args.out.now
    c.link_temporary-t.ensures.value c.beside.ensures.value c.in_ok-formal.ensures
    (c.deref.ensures.value ∙ c.in_ok-operands.ensures) c.call_value.ensures
