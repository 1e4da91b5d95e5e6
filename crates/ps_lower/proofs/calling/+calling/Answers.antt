use Rattle.std.proofs.Common.{suc, sym, ap, ◌∙◌, ⊎_elim}
use Rattle.ps_tree.specs.View.{place_of, selector_of, expr_of, set_of}
use Rattle.ps_tree.proofs.TreeLemmas.{expr_of_Load, expr_of_Arithmetic, expr_of_Logic}
use Rattle.ps_lower_code.specs.Calling as code
use Rattle.ps_lower.proofs.Searches.{passed_start, passed_next, passed_found, passed_all, or_first, or_second}
use Rattle.ps_lower.proofs.Searches.{selectors_in, selectors_none, selectors_more, step_in, steps_in, steps_none}
use Rattle.ps_lower.proofs.Searches.{steps_more, operands_in, operands_none, operands_more}
use Rattle.ps_lower.proofs.calling.+calling.Goals as goal

pub selectors_call_in-loop-selector-init : goal.selectors_call_in-loop-selector-init
selectors_call_in-loop-selector-init t c = passed_start (selectors_in c.args.levels) _

pub selectors_call_in-loop-selector-preserved : goal.selectors_call_in-loop-selector-preserved
selectors_call_in-loop-selector-preserved t c = passed_next (selectors_in c.args.levels)
    (λ x. code.selector_calls_in c.args.levels (selector_of x))
    (selectors_more c.args.levels) _ _ _ c.selector-item.result c.loop-selector-test.true c.loop-selector.invariant
    (c.selector_calls_in.ensures ∙ ap (λ x. code.selector_calls_in c.args.levels (selector_of x)) c.selector-item.is)
    c.if-selector_calls_in.false

pub selectors_call_in-returns-then-selector_calls_in : goal.selectors_call_in-returns-then-selector_calls_in
selectors_call_in-returns-then-selector_calls_in t c = passed_found (selectors_in c.args.levels)
    (λ x. code.selector_calls_in c.args.levels (selector_of x))
    (selectors_more c.args.levels) _ _ _ c.selector-item.result c.loop-selector-test.true c.loop-selector.invariant
    (c.selector_calls_in.ensures ∙ ap (λ x. code.selector_calls_in c.args.levels (selector_of x)) c.selector-item.is)
    c.if-selector_calls_in.true

pub selectors_call_in-returns : goal.selectors_call_in-returns
selectors_call_in-returns t c = passed_all (selectors_in c.args.levels)
    (selectors_none c.args.levels) _ _ c.loop-selector-test.false c.loop-selector.invariant

pub steps_call_in-loop-step-init : goal.steps_call_in-loop-step-init
steps_call_in-loop-step-init t c = passed_start (steps_in c.args.levels) _

pub steps_call_in-loop-step-preserved : goal.steps_call_in-loop-step-preserved
steps_call_in-loop-step-preserved t c = passed_next (steps_in c.args.levels) (step_in c.args.levels)
    (steps_more c.args.levels) _ _ _ c.step-item.result c.loop-step-test.true c.loop-step.invariant
    (c.expr_calls_in.ensures ∙ ap (step_in c.args.levels) c.step-item.is) c.if-expr_calls_in.false

pub steps_call_in-returns-then-expr_calls_in : goal.steps_call_in-returns-then-expr_calls_in
steps_call_in-returns-then-expr_calls_in t c = passed_found (steps_in c.args.levels) (step_in c.args.levels)
    (steps_more c.args.levels) _ _ _ c.step-item.result c.loop-step-test.true c.loop-step.invariant
    (c.expr_calls_in.ensures ∙ ap (step_in c.args.levels) c.step-item.is) c.if-expr_calls_in.true

pub steps_call_in-returns : goal.steps_call_in-returns
steps_call_in-returns t c = passed_all (steps_in c.args.levels)
    (steps_none c.args.levels) _ _ c.loop-step-test.false c.loop-step.invariant

pub operands_call_in-loop-operand-init : goal.operands_call_in-loop-operand-init
operands_call_in-loop-operand-init t c = passed_start (operands_in c.args.levels) _

pub operands_call_in-loop-operand-preserved : goal.operands_call_in-loop-operand-preserved
operands_call_in-loop-operand-preserved t c = passed_next (operands_in c.args.levels)
    (λ x. code.expr_calls_in c.args.levels (expr_of x))
    (operands_more c.args.levels) _ _ _ c.operand-item.result c.loop-operand-test.true c.loop-operand.invariant
    (c.expr_calls_in.ensures ∙ ap (λ x. code.expr_calls_in c.args.levels (expr_of x)) c.operand-item.is)
    c.if-expr_calls_in.false

pub operands_call_in-returns-then-expr_calls_in : goal.operands_call_in-returns-then-expr_calls_in
operands_call_in-returns-then-expr_calls_in t c = passed_found (operands_in c.args.levels)
    (λ x. code.expr_calls_in c.args.levels (expr_of x))
    (operands_more c.args.levels) _ _ _ c.operand-item.result c.loop-operand-test.true c.loop-operand.invariant
    (c.expr_calls_in.ensures ∙ ap (λ x. code.expr_calls_in c.args.levels (expr_of x)) c.operand-item.is)
    c.if-expr_calls_in.true

pub operands_call_in-returns : goal.operands_call_in-returns
operands_call_in-returns t c = passed_all (operands_in c.args.levels)
    (operands_none c.args.levels) _ _ c.loop-operand-test.false c.loop-operand.invariant

pub part_calls-returns-else-expr_calls_in : goal.part_calls-returns-else-expr_calls_in
part_calls-returns-else-expr_calls_in t c =
    c.steps_call_in.ensures ∙ ap (steps_in c.args.levels) c.deref-else-expr_calls_in.ensures.value
    ∙ or_second (code.expr_calls_in c.args.levels (expr_of c.in-Arithmetic.first.value))
    (steps_in c.args.levels c.in-Arithmetic.steps.items) _
    (sym (c.expr_calls_in.ensures ∙ ap (λ x. code.expr_calls_in c.args.levels (expr_of x))
    c.deref-in-Arithmetic.ensures) ∙ c.if-expr_calls_in.false)
    (sym (ap (code.expr_calls_in (suc c.args.levels))
    (ap expr_of c.in-Arithmetic.is ∙ expr_of_Arithmetic c.in-Arithmetic.first c.in-Arithmetic.steps)))

pub part_calls-returns-else-expr_calls_in-2 : goal.part_calls-returns-else-expr_calls_in-2
part_calls-returns-else-expr_calls_in-2 t c =
    c.operands_call_in.ensures ∙ ap (operands_in c.args.levels) c.deref-else-expr_calls_in-2.ensures.value
    ∙ or_second (code.expr_calls_in c.args.levels (expr_of c.in-Logic.first.value))
    (operands_in c.args.levels c.in-Logic.rest.items) _
    (sym (c.expr_calls_in-in-Logic.ensures ∙ ap (λ x. code.expr_calls_in c.args.levels (expr_of x))
    c.deref-in-Logic.ensures) ∙ c.if-expr_calls_in-2.false)
    (sym (ap (code.expr_calls_in (suc c.args.levels))
    (ap expr_of c.in-Logic.is ∙ expr_of_Logic _ c.in-Logic.first c.in-Logic.rest)))

pub part_calls-returns-in-Load : goal.part_calls-returns-in-Load
part_calls-returns-in-Load t c = c.place_calls_in.ensures
    ∙ ap (λ p. code.place_calls_in c.args.levels (place_of p)) c.deref.ensures ∙ sym
    (ap (code.expr_calls_in (suc c.args.levels)) (ap expr_of c.in-Load.is ∙ expr_of_Load c.in-Load.place))

pub part_calls-returns-then-expr_calls_in : goal.part_calls-returns-then-expr_calls_in
part_calls-returns-then-expr_calls_in t c = c.if-expr_calls_in.true ∙ or_first
    (code.expr_calls_in c.args.levels (expr_of c.in-Arithmetic.first.value))
    (steps_in c.args.levels c.in-Arithmetic.steps.items) _
    (sym (c.expr_calls_in.ensures ∙ ap (λ x. code.expr_calls_in c.args.levels (expr_of x))
    c.deref-in-Arithmetic.ensures) ∙ c.if-expr_calls_in.true)
    (sym (ap (code.expr_calls_in (suc c.args.levels))
    (ap expr_of c.in-Arithmetic.is ∙ expr_of_Arithmetic c.in-Arithmetic.first c.in-Arithmetic.steps)))

pub part_calls-returns-then-expr_calls_in-2 : goal.part_calls-returns-then-expr_calls_in-2
part_calls-returns-then-expr_calls_in-2 t c = c.if-expr_calls_in-2.true ∙ or_first
    (code.expr_calls_in c.args.levels (expr_of c.in-Logic.first.value))
    (operands_in c.args.levels c.in-Logic.rest.items) _
    (sym (c.expr_calls_in-in-Logic.ensures ∙ ap (λ x. code.expr_calls_in c.args.levels (expr_of x))
    c.deref-in-Logic.ensures) ∙ c.if-expr_calls_in-2.true)
    (sym (ap (code.expr_calls_in (suc c.args.levels))
    (ap expr_of c.in-Logic.is ∙ expr_of_Logic _ c.in-Logic.first c.in-Logic.rest)))

pub part_calls-returns-then-expr_calls_in-3 : goal.part_calls-returns-then-expr_calls_in-3
unfolding expr_of
part_calls-returns-then-expr_calls_in-3 t c =
    c.if-expr_calls_in-3.true ∙ or_first (code.expr_calls_in c.args.levels (expr_of c.in-In.left.value))
    (code.asked_calls_in c.args.levels (set_of c.in-In.right.value)) _
    (sym (c.expr_calls_in-in-In.ensures ∙ ap (λ x. code.expr_calls_in c.args.levels (expr_of x))
    c.deref-in-In.ensures) ∙ c.if-expr_calls_in-3.true)
    (sym (ap (λ x. code.expr_calls_in (suc c.args.levels) (expr_of x)) c.in-In.is))

pub part_calls-returns-else-expr_calls_in-3 : goal.part_calls-returns-else-expr_calls_in-3
unfolding expr_of
part_calls-returns-else-expr_calls_in-3 t c =
    c.asked_calls_in.ensures ∙ ap (λ x. code.asked_calls_in c.args.levels (set_of x))
    c.deref-else-expr_calls_in-3.ensures
    ∙ or_second (code.expr_calls_in c.args.levels (expr_of c.in-In.left.value))
    (code.asked_calls_in c.args.levels (set_of c.in-In.right.value)) _
    (sym (c.expr_calls_in-in-In.ensures ∙ ap (λ x. code.expr_calls_in c.args.levels (expr_of x))
    c.deref-in-In.ensures) ∙ c.if-expr_calls_in-3.false)
    (sym (ap (λ x. code.expr_calls_in (suc c.args.levels) (expr_of x)) c.in-In.is))

pub part_calls-returns-then-expr_calls_in-4 : goal.part_calls-returns-then-expr_calls_in-4
unfolding expr_of
part_calls-returns-then-expr_calls_in-4 t c =
    let hit = sym (c.expr_calls_in-in-Compare.ensures
    ∙ ap (λ x. code.expr_calls_in c.args.levels (expr_of x)) c.deref-in-Compare.ensures) ∙ c.if-expr_calls_in-4.true
    in
    ⊎_elim
    (λ w. c.if-expr_calls_in-4.true ∙ or_first (code.expr_calls_in c.args.levels (expr_of c.in-Compare.left.value))
    (code.expr_calls_in c.args.levels (expr_of c.in-Compare.right.value)) _ hit
    (sym (ap (λ x. code.expr_calls_in (suc c.args.levels) (expr_of x)) w.1)))
    (λ w. c.if-expr_calls_in-4.true ∙ or_first (code.expr_calls_in c.args.levels (expr_of c.in-Compare.left.value))
    (code.expr_calls_in c.args.levels (expr_of c.in-Compare.right.value)) _ hit
    (sym (ap (λ x. code.expr_calls_in (suc c.args.levels) (expr_of x)) w.1)))
    c.in-Compare.is

pub part_calls-returns-else-expr_calls_in-4 : goal.part_calls-returns-else-expr_calls_in-4
unfolding expr_of
part_calls-returns-else-expr_calls_in-4 t c =
    let missed = sym (c.expr_calls_in-in-Compare.ensures
    ∙ ap (λ x. code.expr_calls_in c.args.levels (expr_of x)) c.deref-in-Compare.ensures)
    ∙ c.if-expr_calls_in-4.false in
    let second = c.expr_calls_in-else-expr_calls_in-4.ensures
    ∙ ap (λ x. code.expr_calls_in c.args.levels (expr_of x)) c.deref-else-expr_calls_in-4.ensures in
    ⊎_elim
    (λ w. second ∙ or_second (code.expr_calls_in c.args.levels (expr_of c.in-Compare.left.value))
    (code.expr_calls_in c.args.levels (expr_of c.in-Compare.right.value)) _ missed
    (sym (ap (λ x. code.expr_calls_in (suc c.args.levels) (expr_of x)) w.1)))
    (λ w. second ∙ or_second (code.expr_calls_in c.args.levels (expr_of c.in-Compare.left.value))
    (code.expr_calls_in c.args.levels (expr_of c.in-Compare.right.value)) _ missed
    (sym (ap (λ x. code.expr_calls_in (suc c.args.levels) (expr_of x)) w.1)))
    c.in-Compare.is

pub place_calls_in-returns : goal.place_calls_in-returns
place_calls_in-returns t c = c.selectors_call_in.ensures ∙ ap (selectors_in c.args.levels) c.deref.ensures.value

pub selector_calls_in-returns-in-Element : goal.selector_calls_in-returns-in-Element
unfolding selector_of
selector_calls_in-returns-in-Element t c = c.expr_calls_in.ensures ∙ sym
    (ap (λ x. code.selector_calls_in c.args.levels (selector_of x)) c.in-Element.is)
