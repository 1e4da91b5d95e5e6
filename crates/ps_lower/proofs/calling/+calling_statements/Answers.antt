use Rattle.std.proofs.Common.{suc, sym, ap, ◌∙◌}
use Rattle.ps_tree.specs.View.{place_of, expr_of, statement_of}
use Rattle.ps_tree.proofs.StatementLemmas.{statement_of_Compound, statement_of_Repeat, statement_of_Case}
use Rattle.ps_lower_code.specs.Calling as code
use Rattle.ps_lower.proofs.Searches.{passed_start, passed_next, passed_found, passed_all, or_first, or_second}
use Rattle.ps_lower.proofs.Searches.{places_in, statements_in, statements_none, statements_more, element_in}
use Rattle.ps_lower.proofs.Searches.{elements_in, elements_none, elements_more}
use Rattle.ps_lower.proofs.calling.+calling_statements.Goals as goal

pub statements_call_in-loop-statement-init : goal.statements_call_in-loop-statement-init
statements_call_in-loop-statement-init t c = passed_start (statements_in c.args.levels) _

pub statements_call_in-loop-statement-preserved : goal.statements_call_in-loop-statement-preserved
statements_call_in-loop-statement-preserved t c = passed_next (statements_in c.args.levels)
    (λ x. code.statement_calls_in c.args.levels (statement_of x))
    (statements_more c.args.levels) _ _ _ c.statement-item.result c.loop-statement-test.true c.loop-statement.invariant
    (c.statement_calls_in.ensures ∙ ap (λ x. code.statement_calls_in c.args.levels (statement_of x))
    c.statement-item.is) c.if-statement_calls_in.false

pub statements_call_in-returns-then-statement_calls_in : goal.statements_call_in-returns-then-statement_calls_in
statements_call_in-returns-then-statement_calls_in t c = passed_found (statements_in c.args.levels)
    (λ x. code.statement_calls_in c.args.levels (statement_of x))
    (statements_more c.args.levels) _ _ _ c.statement-item.result c.loop-statement-test.true c.loop-statement.invariant
    (c.statement_calls_in.ensures ∙ ap (λ x. code.statement_calls_in c.args.levels (statement_of x))
    c.statement-item.is) c.if-statement_calls_in.true

pub statements_call_in-returns : goal.statements_call_in-returns
statements_call_in-returns t c = passed_all (statements_in c.args.levels)
    (statements_none c.args.levels) _ _ c.loop-statement-test.false c.loop-statement.invariant

pub elements_call_in-loop-element-init : goal.elements_call_in-loop-element-init
elements_call_in-loop-element-init t c = passed_start (elements_in c.args.levels) _

pub elements_call_in-loop-element-preserved : goal.elements_call_in-loop-element-preserved
elements_call_in-loop-element-preserved t c = passed_next (elements_in c.args.levels) (element_in c.args.levels)
    (elements_more c.args.levels) _ _ _ c.element-item.result c.loop-element-test.true c.loop-element.invariant
    (c.statement_calls_in.ensures ∙ ap (element_in c.args.levels) c.element-item.is) c.if-statement_calls_in.false

pub elements_call_in-returns-then-statement_calls_in : goal.elements_call_in-returns-then-statement_calls_in
elements_call_in-returns-then-statement_calls_in t c = passed_found (elements_in c.args.levels)
    (element_in c.args.levels) (elements_more c.args.levels) _ _ _ c.element-item.result c.loop-element-test.true
    c.loop-element.invariant (c.statement_calls_in.ensures ∙ ap (element_in c.args.levels) c.element-item.is)
    c.if-statement_calls_in.true

pub elements_call_in-returns : goal.elements_call_in-returns
elements_call_in-returns t c = passed_all (elements_in c.args.levels)
    (elements_none c.args.levels) _ _ c.loop-element-test.false c.loop-element.invariant

pub action_calls-returns-else-expr_calls-2 : goal.action_calls-returns-else-expr_calls-2
action_calls-returns-else-expr_calls-2 t c =
    c.elements_call_in.ensures ∙ ap (elements_in c.args.levels) c.deref-else-expr_calls-2.ensures.value
    ∙ or_second (code.expr_calls (expr_of c.in-Case.index)) (elements_in c.args.levels c.in-Case.elements.items) _
    (sym c.expr_calls-in-Case.ensures ∙ c.if-expr_calls-2.false)
    (sym (ap (code.statement_calls_in (suc c.args.levels))
    (ap statement_of c.in-Case.is ∙ statement_of_Case c.in-Case.index c.in-Case.elements c.in-Case.line)))

pub action_calls-returns-in-Empty : goal.action_calls-returns-in-Empty
unfolding statement_of
action_calls-returns-in-Empty t c = sym (ap
    (λ x. code.statement_calls_in (suc c.args.levels) (statement_of x)) c.in-Empty.is)

pub action_calls-returns-then-place_calls : goal.action_calls-returns-then-place_calls
unfolding statement_of
action_calls-returns-then-place_calls t c = c.if-place_calls.true ∙ or_first
    (code.place_calls (place_of c.in-Assign.target)) (code.expr_calls (expr_of c.in-Assign.value)) _
    (sym c.place_calls.ensures ∙ c.if-place_calls.true)
    (sym (ap (λ x. code.statement_calls_in (suc c.args.levels) (statement_of x)) c.in-Assign.is))

pub action_calls-returns-else-place_calls : goal.action_calls-returns-else-place_calls
unfolding statement_of
action_calls-returns-else-place_calls t c = c.expr_calls.ensures ∙ or_second
    (code.place_calls (place_of c.in-Assign.target)) (code.expr_calls (expr_of c.in-Assign.value)) _
    (sym c.place_calls.ensures ∙ c.if-place_calls.false)
    (sym (ap (λ x. code.statement_calls_in (suc c.args.levels) (statement_of x)) c.in-Assign.is))

pub action_calls-returns-in-Compound : goal.action_calls-returns-in-Compound
action_calls-returns-in-Compound t c = c.statements_call_in.ensures
    ∙ ap (statements_in c.args.levels) c.deref.ensures.value ∙ sym
    (ap (code.statement_calls_in (suc c.args.levels))
    (ap statement_of c.in-Compound.is ∙ statement_of_Compound c.in-Compound.body))

pub action_calls-returns-then-expr_calls-2 : goal.action_calls-returns-then-expr_calls-2
action_calls-returns-then-expr_calls-2 t c = c.if-expr_calls-2.true ∙ or_first
    (code.expr_calls (expr_of c.in-Case.index)) (elements_in c.args.levels c.in-Case.elements.items) _
    (sym c.expr_calls-in-Case.ensures ∙ c.if-expr_calls-2.true)
    (sym (ap (code.statement_calls_in (suc c.args.levels))
    (ap statement_of c.in-Case.is ∙ statement_of_Case c.in-Case.index c.in-Case.elements c.in-Case.line)))

pub action_calls-returns-then-statements_call_in : goal.action_calls-returns-then-statements_call_in
action_calls-returns-then-statements_call_in t c = c.if-statements_call_in.true ∙ or_first
    (statements_in c.args.levels c.in-Repeat.body.items) (code.expr_calls (expr_of c.in-Repeat.condition)) _
    (sym (c.statements_call_in-in-Repeat.ensures ∙ ap (statements_in c.args.levels) c.deref-in-Repeat.ensures.value)
    ∙ c.if-statements_call_in.true) (sym (ap (code.statement_calls_in (suc c.args.levels))
    (ap statement_of c.in-Repeat.is ∙ statement_of_Repeat c.in-Repeat.body c.in-Repeat.condition)))

pub action_calls-returns-else-statements_call_in : goal.action_calls-returns-else-statements_call_in
action_calls-returns-else-statements_call_in t c = c.expr_calls-else-statements_call_in.ensures ∙ or_second
    (statements_in c.args.levels c.in-Repeat.body.items) (code.expr_calls (expr_of c.in-Repeat.condition)) _
    (sym (c.statements_call_in-in-Repeat.ensures ∙ ap (statements_in c.args.levels) c.deref-in-Repeat.ensures.value)
    ∙ c.if-statements_call_in.false) (sym (ap (code.statement_calls_in (suc c.args.levels))
    (ap statement_of c.in-Repeat.is ∙ statement_of_Repeat c.in-Repeat.body c.in-Repeat.condition)))

pub action_calls-returns-then-places_call : goal.action_calls-returns-then-places_call
unfolding statement_of
action_calls-returns-then-places_call t c = c.if-places_call.true ∙ or_first (places_in c.in-With.places.items)
    (code.statement_calls_in c.args.levels (statement_of c.in-With.body.value)) _
    (sym (c.places_call.ensures ∙ ap places_in c.deref-in-With.ensures.value) ∙ c.if-places_call.true)
    (sym (ap (λ x. code.statement_calls_in (suc c.args.levels) (statement_of x)) c.in-With.is))

pub action_calls-returns-else-places_call : goal.action_calls-returns-else-places_call
unfolding statement_of
action_calls-returns-else-places_call t c = c.statement_calls_in-else-places_call.ensures
    ∙ ap (λ x. code.statement_calls_in c.args.levels (statement_of x)) c.deref-else-places_call.ensures ∙ or_second
    (places_in c.in-With.places.items) (code.statement_calls_in c.args.levels (statement_of c.in-With.body.value)) _
    (sym (c.places_call.ensures ∙ ap places_in c.deref-in-With.ensures.value) ∙ c.if-places_call.false)
    (sym (ap (λ x. code.statement_calls_in (suc c.args.levels) (statement_of x)) c.in-With.is))
