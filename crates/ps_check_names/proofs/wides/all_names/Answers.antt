use Rattle.std.proofs.Common.{map}
use Rattle.ps_tree.specs.Types.{field_types}
use Rattle.ps_check_names.proofs.NoteLemmas.{field_placed}
use Rattle.ps_check_names.proofs.wides.all_names.Goals as goal

pub returns : goal.returns
returns c = field_placed c.args.fields.now c.names.result.now (map (λ v. v.items) c.as_slice.result.now)
    (field_types c.args.fields.now) c.names.ensures c.as_slice.ensures
