use Rattle.std.proofs.Common.{map, ap, length}
use Rattle.ps_check_names.proofs.WideLemmas.{listed_more, same_fields}
use Rattle.ps_check_names.proofs.wides.Wides.with_wide.Goals as goal

pub invariant_of-result : goal.invariant_of-result
invariant_of-result c = record {
  listed = rw c.in_ok-push.ensures.items (listed_more c.args.self.types.items c.in_ok-copy.copy c.args.ty.now
      c.args.self.names (map (λ v. v.items) c.args.self.kinds.items) c.note_all.new.names
      (map (λ v. v.items) c.note_all.new.kinds.items) _
      (same_fields c.in_ok-copy.copy c.args.ty.now c.in_ok-copy.ensures) (ap length c.as_slice-number.ensures.value)
      c.args.self.listed c.in_ok-note_all.ensures.keeps
      (λ s h. let m = c.in-Some.ensures.names s h in c.in_ok-note_all.ensures.noted s m.0 m.1));
  even = c.in_ok-note_all.ensures.even;
}
