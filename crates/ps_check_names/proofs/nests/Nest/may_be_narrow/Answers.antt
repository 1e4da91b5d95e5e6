use Rattle.std.proofs.Common.{sym}
use Rattle.ps_check_names.specs.Nests.{levels_of, records_in}
use Rattle.ps_check_names.specs.Marks.{mark_of, number_of}
use Rattle.ps_check_names.proofs.MarkLemmas.{unshown}
use Rattle.ps_check_names.proofs.nests.Nest.may_be_narrow.Goals as goal

pub returns-then-is_in : goal.returns-then-is_in
returns-then-is_in c = λ off apart. unshown (records_in (levels_of c.args.self.now.levels))
    (number_of c.args.self.now.wides.now.fields) c.args.self.now.numbers.items _ c.args.self.now.present.items
    c.number.result c.args.name.now c.is_in-then-is_in.result c.args.self.now.listed c.number.ensures
    (rw c.as_slice-then-is_in.ensures.value at c.is_in-then-is_in.ensures) off apart

pub returns-else-is_in : goal.returns-else-is_in
returns-else-is_in c = λ off apart. unshown (records_in (levels_of c.args.self.now.levels))
    (mark_of c.args.self.now.wides.now.start) c.args.self.now.marks.items _ c.args.self.now.present.items
    c.args.mark.number c.args.name.now c.is_in.result c.args.self.now.shown
    (c.requires.mark c.args.self.now.wides.now.start (sym c.requires.own))
    (rw c.as_slice.ensures.value at c.is_in.ensures) c.if-is_in.false apart
