use Rattle.std.proofs.Common.{ℕ, List, map, length, ap}
use Rattle.ps_check_names.specs.Opened.{HasField}
use Rattle.ps_check_names.specs.Sets.{Holds}
use Rattle.ps_check_names.specs.Wides.{kind_of}
use Rattle.ps_check_names.specs.Marks.{mark_of, number_of}
use Rattle.ps_check_names.proofs.NoteLemmas.{covers_wide}
use Rattle.ps_check_names.proofs.MarkLemmas.{marked_wide}
use Rattle.ps_check_names.proofs.LikeLemmas.{stands_there}
use Rattle.ps_check_names.proofs.opened.Opened.with_wide.Goals as goal

pub invariant_of-result : goal.invariant_of-result
invariant_of-result c =
    let self = c.args.self in
    let count = ap length c.as_slice-before.ensures.value in
    let has : (s : List ℕ) → HasField c.args.ty s → Holds
    (kind_of self.wides.now.names (map (λ v. v.items) self.wides.now.kinds.items) s) c.args.number = (λ s h.
    let o = stands_there c.args.ty self.wides.now.types.items c.args.number c.requires s h in
    self.wides.now.listed s c.args.number o.0 o.1 o.2) in record {
      covers = rw c.in_ok-push.ensures.items (covers_wide self.records.items c.args.ty self.asked self.names
          self.reaches.items _ self.present.items self.latest.items self.covers c.insert.new.words.items
          c.raise_at.new.numbers.items c.args.number _ count c.in_ok-insert.ensures.kept
          c.in_ok-insert.ensures.there c.in_ok-raise_at.ensures.kept c.in_ok-raise_at.ensures.least has);
      marked = rw c.in_ok-push.ensures.items (marked_wide self.records.items c.args.ty _ self.present.items
          self.latest.items (mark_of self.wides.now.start) self.marks.items self.marked c.insert.new.words.items
          c.raise_at.new.numbers.items c.args.number _ count c.in_ok-insert.ensures.kept
          c.in_ok-insert.ensures.there c.in_ok-raise_at.ensures.kept c.in_ok-raise_at.ensures.least has);
      numbered = rw c.in_ok-push.ensures.items (marked_wide self.records.items c.args.ty _ self.present.items
          self.latest.items (number_of self.wides.now.fields) self.numbers.items self.numbered
          c.insert.new.words.items c.raise_at.new.numbers.items c.args.number _ count
          c.in_ok-insert.ensures.kept c.in_ok-insert.ensures.there c.in_ok-raise_at.ensures.kept
          c.in_ok-raise_at.ensures.least has);
      even = self.even;
    }
