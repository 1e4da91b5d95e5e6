use Rattle.std.proofs.Common.{map}
use Rattle.ps_check_names.proofs.NoteLemmas.{on_ok, record_noted}
use Rattle.ps_check_names.proofs.opened.note_record.Goals as goal

pub returns-in-Some-clause-noted : goal.returns-in-Some-clause-noted
returns-in-Some-clause-noted c = on_ok c.note_all.result c.note_all.ensures.noted
    (record_noted c.args.ty.now (map (λ v. v.items) c.in-Some.fields.now) c.note_all.new.names
    c.note_all.new.reaches.items c.args.reach c.args.asked.now c.in-Some.ensures.names)
