use Rattle.std.proofs.Common.{◌≤◌, length, arith, map, option_map, Some, sym, ap, ◌∙◌}
use Rattle.std.proofs.lemmas.List.{length-map}
use Rattle.std.proofs.lemmas.Option.{slice_get-map}
use Rattle.ps_check_names.specs.Marks.{mark_of}
use Rattle.ps_check_names.proofs.NoteLemmas.{got}
use Rattle.ps_check_names.proofs.MarkLemmas.{marks_next, marks_end}
use Rattle.ps_check_names.proofs.marks.mark_all.Goals as goal

pub loop-name-preserved : goal.loop-name-preserved
loop-name-preserved c = (
  (λ n h. c.in_ok-insert.ensures.kept n (c.loop-name.invariant.0 n h)),
  marks_next (map (λ v. v.items) c.args.names.now)
      (mark_of c.args.start) c.loop-name.words.items c.insert.new.words.items
      c.loop-name.name-index c.deref.result.now
      (slice_get-map (λ v. v.items) c.args.names.now c.loop-name.name-index
      ∙ ap (option_map (λ v. v.items))
      (got c.args.names.now c.loop-name.name-index c.name-item.result c.loop-name-test.true c.name-item.is)
      ∙ ap (λ x. Some x) (sym c.deref.ensures.value))
      c.loop-name.invariant.1 c.in_ok-insert.ensures.kept (rw c.number_of.ensures at c.in_ok-insert.ensures.there),
)

pub returns-clause-there : goal.returns-clause-there
returns-clause-there c =
    let names = map (λ v. v.items) c.args.names.now in
    let n = length-map c.args.names.now (λ v. v.items) in
    let over : length names ≤ c.loop-name.name-index = omega (arith, n, c.loop-name-test.false) in
    marks_end names (mark_of c.args.start) c.loop-name.words.items c.loop-name.name-index over c.loop-name.invariant.1
