use Rattle.std.proofs.Common.{map}
use Rattle.ps_check_names.specs.Marks.{number_of}
use Rattle.ps_check_names.proofs.NoteLemmas.{on_ok}
use Rattle.ps_check_names.proofs.MarkLemmas.{names_marked}
use Rattle.ps_check_names.proofs.opened.number_record.Goals as goal

pub returns-in-Some-clause-there : goal.returns-in-Some-clause-there
returns-in-Some-clause-there c = on_ok c.number_all.result c.number_all.ensures.there
    (names_marked c.args.ty.now (number_of c.args.fields.now) c.number_all.new.words.items
    (map (λ v. v.items) c.in-Some.names.now)
    c.in-Some.ensures.names)
