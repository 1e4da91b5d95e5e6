use Rattle.std.proofs.Common.{rules, ◌≡◌, true, false, sym, ap, ◌∙◌}
use Rattle.ps_tree.specs.Counts.{is_small_formal}
use Rattle.ps_tree.specs.View.{formal_of}
use Rattle.ps_tree.proofs.FormalLemmas.{passed_fails, passed_next, passed_end, small_formals, small_formals_none}
use Rattle.ps_tree.proofs.FormalLemmas.{small_formals_more, routine_small}
use Rattle.ps_tree.proofs.program.+small.Goals as goal

pub are_small_formals-returns-then-not-is_small_formal : goal.are_small_formals-returns-then-not-is_small_formal
are_small_formals-returns-then-not-is_small_formal t c =
    let no : c.is_small_formal.result ≡ false = search rules in
    passed_fails small_formals (λ x. is_small_formal (formal_of x)) small_formals_more _ _ c.formal-item.result
    c.loop-formal-test.true c.loop-formal.invariant
    (ap (λ x. is_small_formal (formal_of x)) (sym c.formal-item.is) ∙ sym c.is_small_formal.ensures ∙ no)

pub are_small_formals-loop-formal-preserved : goal.are_small_formals-loop-formal-preserved
are_small_formals-loop-formal-preserved t c =
    let yes' : c.is_small_formal.result ≡ true = search rules in
    passed_next small_formals (λ x. is_small_formal (formal_of x)) small_formals_more _ _ c.formal-item.result
    c.loop-formal-test.true c.loop-formal.invariant
    (ap (λ x. is_small_formal (formal_of x)) (sym c.formal-item.is) ∙ sym c.is_small_formal.ensures ∙ yes')

pub are_small_formals-returns : goal.are_small_formals-returns
are_small_formals-returns t c = passed_end small_formals small_formals_none _ _ c.loop-formal-test.false
    c.loop-formal.invariant

pub is_small_formal-returns-in-Routine : goal.is_small_formal-returns-in-Routine
is_small_formal-returns-in-Routine t c = c.heading_keeps.ensures
    ∙ routine_small _ _ _ _ _ _ c.in-Routine.is c.deref.ensures.value c.deref-in-Routine.ensures.value
    c.are_small_formals.ensures
