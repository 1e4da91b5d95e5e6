use Rattle.std.proofs.Common.{◌∙◌}
use Rattle.std.proofs.lemmas.Result.{on_ok_weaker}
use Rattle.ps_tree.specs.View.{types_of}
use Rattle.ps_lower.proofs.Tasks.{record_left}
use Rattle.ps_lower.proofs.Cores.{solid_left}
use Rattle.ps_lower.proofs.firsts.record.Goals as goal

pub returns : goal.returns
returns c =
    on_ok_weaker c.leave.result
    (λ e. solid_left c.args.offset c.args.fields.now (types_of c.solid-types.result.now) c.args.tasks.now.items
    c.leave.new.tasks.items c.solid-types.ensures
    (record_left c.args.offset c.solid-types.result c.args.tasks.now.items c.leave.new.tasks.items e))
    c.leave.ensures
