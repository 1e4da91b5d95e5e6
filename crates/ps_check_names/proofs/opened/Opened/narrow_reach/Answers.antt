use Rattle.std.proofs.Common.{map}
use Rattle.ps_check_names.specs.Wides.{kind_of}
use Rattle.ps_check_names.specs.Marks.{number_of}
use Rattle.ps_check_names.proofs.NoteLemmas.{narrow_noted}
use Rattle.ps_check_names.proofs.MarkLemmas.{narrow_off}
use Rattle.ps_check_names.proofs.opened.Opened.narrow_reach.Goals as goal

pub returns-then-is_in : goal.returns-then-is_in
returns-then-is_in c = narrow_noted c.args.self.now.records.items c.args.self.now.asked c.args.self.now.names
    c.args.self.now.reaches.items _ c.args.self.now.present.items c.args.self.now.latest.items c.args.name.now
    c.noted_reach.result c.asked_reach.result _ c.args.self.now.covers c.noted_reach.ensures c.asked_reach.ensures
    c.larger.ensures.first c.larger.ensures.second

pub returns-else-is_in : goal.returns-else-is_in
returns-else-is_in c = narrow_off c.args.self.now.records.items
    (kind_of c.args.self.now.wides.now.names (map (λ v. v.items) c.args.self.now.wides.now.kinds.items))
    c.args.self.now.present.items c.args.self.now.latest.items (number_of c.args.self.now.wides.now.fields)
    c.args.self.now.numbers.items c.args.self.now.numbered c.args.number c.args.name.now
    c.is_in.result 0 c.requires (rw c.as_slice.ensures.value at c.is_in.ensures) c.if-is_in.false
