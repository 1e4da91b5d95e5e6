use Rattle.std.proofs.Common.{map}
use Rattle.ps_check_names.specs.Marks.{mark_of}
use Rattle.ps_check_names.proofs.NoteLemmas.{on_ok}
use Rattle.ps_check_names.proofs.MarkLemmas.{names_marked}
use Rattle.ps_check_names.proofs.opened.mark_record.Goals as goal

pub returns-in-Some-clause-there : goal.returns-in-Some-clause-there
returns-in-Some-clause-there c = on_ok c.mark_all.result c.mark_all.ensures.there
    (names_marked c.args.ty.now (mark_of c.args.start) c.mark_all.new.words.items
    (map (λ v. v.items) c.in-Some.names.now)
    c.in-Some.ensures.names)
