use Rattle.std.proofs.Common.{rules}
use Rattle.ps_diagnose.proofs.Beginning.{tree_begins, told_there}
use Rattle.ps_diagnose.proofs.begun.begins.Goals as goal

pub returns-in-Ok : goal.returns-in-Ok
returns-in-Ok c = tree_begins c.args.source.now c.args.tokens.now c.in-Ok.program c.in-Ok.ensures.derives

pub refused_at-requires : goal.refused_at-requires
refused_at-requires c =
    let why = c.in-Err-Faulty in
    told_there c.args.source.now c.args.tokens.now why.field-0 why.fault why.field-0-1 why.token why.field-0-3
    why.field-0-4 (search rules) c.requires why.ensures.told
