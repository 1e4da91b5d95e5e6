use Rattle.std.proofs.Common.{sym}
use Rattle.ps_check_names.proofs.NoteLemmas.{further_noted}
use Rattle.ps_check_names.proofs.opened.note.Goals as goal

pub returns-in-Some-clause-noted : goal.returns-in-Some-clause-noted
returns-in-Some-clause-noted c = further_noted c.args.names.now c.args.reaches.now.items
    c.raise-raised.new.numbers.items
    c.args.name.now c.in-Some.index c.raise-raised.result (sym c.in-Some.ensures) c.requires.even
    c.raise-raised.ensures.put c.args.reach c.raise-raised.ensures.least
