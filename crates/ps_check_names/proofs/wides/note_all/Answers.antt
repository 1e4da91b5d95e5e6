use Rattle.std.proofs.Common.{◌≤◌, length, arith, map, option_map, Some, sym, ap, ◌∙◌}
use Rattle.std.proofs.lemmas.List.{length-map}
use Rattle.std.proofs.lemmas.Option.{slice_get-map}
use Rattle.ps_check_names.proofs.NoteLemmas.{got}
use Rattle.ps_check_names.proofs.WideLemmas.{kinds_both, kinds_next, all_kinds}
use Rattle.ps_check_names.proofs.wides.note_all.Goals as goal

pub loop-name-preserved : goal.loop-name-preserved
loop-name-preserved c = (
  c.in_ok-note.ensures.even,
  kinds_both c.args.names.now (map (λ v. v.items) c.args.kinds.now.items) c.loop-name.names
      (map (λ v. v.items) c.loop-name.kinds.items) c.note.new.names (map (λ v. v.items) c.note.new.kinds.items)
      c.loop-name.invariant.1 c.in_ok-note.ensures.keeps,
  kinds_next (map (λ v. v.items) c.args.fields.now) c.loop-name.names (map (λ v. v.items) c.loop-name.kinds.items)
      c.note.new.names (map (λ v. v.items) c.note.new.kinds.items) c.args.number c.loop-name.name-index
      c.deref.result.now
      (slice_get-map (λ v. v.items) c.args.fields.now c.loop-name.name-index
      ∙ ap (option_map (λ v. v.items))
      (got c.args.fields.now c.loop-name.name-index c.name-item.result c.loop-name-test.true c.name-item.is)
      ∙ ap (λ x. Some x) (sym c.deref.ensures.value))
      c.loop-name.invariant.2 c.in_ok-note.ensures.keeps c.in_ok-note.ensures.noted,
)

pub returns-clause-noted : goal.returns-clause-noted
returns-clause-noted c =
    let fields = map (λ v. v.items) c.args.fields.now in
    let n = length-map c.args.fields.now (λ v. v.items) in
    let over : length fields ≤ c.loop-name.name-index = omega (arith, n, c.loop-name-test.false) in
    all_kinds fields c.loop-name.names (map (λ v. v.items) c.loop-name.kinds.items) c.args.number c.loop-name.name-index
    over c.loop-name.invariant.2
