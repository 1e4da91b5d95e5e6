use Rattle.std.proofs.Common.{rules, ◌≡◌, [], ◌∷◌, length, sym, ap, ◌∙◌, arith}
use Rattle.std.specs.Vec.Iter.{into_iter_items}
use Rattle.std.proofs.lemmas.List.{nil_from_length}
use Rattle.ps_check.proofs.Collected.{collected_start, collected_next, collected_none, collected_end}
use Rattle.ps_check.proofs.program.all_routines.Goals as goal

pub loop-finished-init : goal.loop-finished-init
loop-finished-init c = search (rules, collected_start)

pub loop-finished-preserved : goal.loop-finished-preserved
loop-finished-preserved c =
    let steps : into_iter_items c.loop-finished.finished-iterator ≡ c.in-Some.finished
    ∷ into_iter_items c.next.new.self = c.in-Some.ensures.steps.0 in (
      collected_next _ _ _ _ _ c.in-Some-finished.field-0 _
          (steps ∙ ap (λ x. x ∷ into_iter_items c.next.new.self) c.in-Some-finished.is) c.loop-finished.invariant.0
          c.in_ok-push-in-Some-finished.ensures.items,
      let was = c.loop-finished.invariant.1 in
          let gone = c.in-Some.ensures.steps.1 in
          let short = ap length steps in
          omega arith,
    )

pub returns-in-None-finished : goal.returns-in-None-finished
returns-in-None-finished c =
    let steps : into_iter_items c.loop-finished.finished-iterator ≡ c.in-Some.finished
    ∷ into_iter_items c.next.new.self = c.in-Some.ensures.steps.0 in
    search (rules, collected_none, steps)

pub returns : goal.returns
returns c =
    let none = c.in-None.ensures.steps in
    let empty : into_iter_items c.loop-finished.finished-iterator ≡ [] = nil_from_length _
    (sym c.loop-finished.invariant.1 ∙ none.0) in
    search (rules, collected_end, empty)
