use Rattle.std.proofs.Common.{length, ap}
use Rattle.ps_check_names.specs.Marks.{mark_of, number_of}
use Rattle.ps_check_names.proofs.NoteLemmas.{covers_narrow}
use Rattle.ps_check_names.proofs.MarkLemmas.{marked_narrow}
use Rattle.ps_check_names.proofs.opened.Opened.with_narrow.Goals as goal

pub invariant_of-result : goal.invariant_of-result
invariant_of-result c = record {
  covers = rw c.in_ok-push.ensures.items (covers_narrow c.args.self.records.items c.args.ty c.args.self.asked
      c.args.self.names c.args.self.reaches.items _ c.args.self.present.items c.args.self.latest.items
      c.args.self.covers c.note_record.new.asked _ c.note_record.new.names c.note_record.new.reaches.items
      (ap length c.as_slice-before.ensures.value) c.in_ok-note_record.ensures.asked
      c.in_ok-note_record.ensures.keeps c.in_ok-note_record.ensures.noted);
  marked = rw c.in_ok-push.ensures.items (marked_narrow c.args.self.records.items c.args.ty _
      c.args.self.present.items c.args.self.latest.items (mark_of c.args.self.wides.now.start)
      c.args.self.marks.items c.args.self.marked c.mark_record.new.words.items c.in_ok-mark_record.ensures.kept
      c.in_ok-mark_record.ensures.there);
  numbered = rw c.in_ok-push.ensures.items (marked_narrow c.args.self.records.items c.args.ty _
      c.args.self.present.items c.args.self.latest.items (number_of c.args.self.wides.now.fields)
      c.args.self.numbers.items c.args.self.numbered c.number_record.new.words.items
      c.in_ok-number_record.ensures.kept c.in_ok-number_record.ensures.there);
  even = c.in_ok-note_record.ensures.even;
}
