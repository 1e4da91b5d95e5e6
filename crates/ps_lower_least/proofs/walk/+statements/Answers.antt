use Rattle.std.proofs.Common.{sym, ap, ap₂, ◌+◌, ◌∙◌}
use Rattle.ps_tree.specs.declared.tree.statements.CaseElement.{out-CaseElement}
use Rattle.ps_tree.specs.View.{place_of, expr_of, statement_of}
use Rattle.ps_lower_least.specs.Fewest.{place_fewest, expr_fewest, statement_fewest}
use Rattle.ps_lower_least.proofs.Gathering.{adds_none, adds_as, adds_two, adds_three, gathered_start, gathered_next}
use Rattle.ps_lower_least.proofs.Gathering.{gathered_all}
use Rattle.ps_lower_least.proofs.Arms.{arguments_in, places_in, reads_in, writes_in, statements_in, statements_none}
use Rattle.ps_lower_least.proofs.Arms.{statements_more, elements_in, elements_none, elements_more, compound_fewest}
use Rattle.ps_lower_least.proofs.Arms.{repeat_fewest, case_fewest, condition_fewest, reads_are, writes_are}
use Rattle.ps_lower_least.proofs.walk.+statements.Goals as goal

pub add_statements-loop-statement-init : goal.add_statements-loop-statement-init
add_statements-loop-statement-init t c = gathered_start statements_in _ _

pub add_statements-loop-statement-preserved : goal.add_statements-loop-statement-preserved
add_statements-loop-statement-preserved t c = gathered_next statements_in
    (λ x. statement_fewest (statement_of x)) statements_more _ _ _ _ _ c.statement-item.result _ c.statement-item.is
    c.loop-statement-test.true c.loop-statement.invariant c.add_statement.ensures

pub add_statements-returns : goal.add_statements-returns
add_statements-returns t c = gathered_all statements_in statements_none _ _ _ _ c.loop-statement-test.false
    c.loop-statement.invariant

pub add_elements-loop-element-init : goal.add_elements-loop-element-init
add_elements-loop-element-init t c = gathered_start elements_in _ _

pub add_elements-loop-element-preserved : goal.add_elements-loop-element-preserved
add_elements-loop-element-preserved t c = gathered_next elements_in
    (λ x. statement_fewest (statement_of (out-CaseElement x).body)) elements_more _ _ _ _ _ c.element-item.result _
    c.element-item.is c.loop-element-test.true c.loop-element.invariant c.add_statement.ensures

pub add_elements-returns : goal.add_elements-returns
add_elements-returns t c = gathered_all elements_in elements_none _ _ _ _ c.loop-element-test.false
    c.loop-element.invariant

pub add_statement-returns-in-Empty : goal.add_statement-returns-in-Empty
unfolding statement_of
add_statement-returns-in-Empty t c = adds_as _ _ _ _ (sym (ap (λ x. statement_fewest (statement_of x)) c.in-Empty.is))
    (adds_none _)

pub add_statement-returns-in-Assign : goal.add_statement-returns-in-Assign
unfolding statement_of
add_statement-returns-in-Assign t c = adds_two _ _ _ _ _ _
    (sym (ap (λ x. statement_fewest (statement_of x)) c.in-Assign.is)) c.add_place.ensures c.add_expr.ensures

pub add_statement-returns-in-AssignSet : goal.add_statement-returns-in-AssignSet
unfolding statement_of
add_statement-returns-in-AssignSet t c = adds_two _ _ _ _ _ _
    (sym (ap (λ x. statement_fewest (statement_of x)) c.in-AssignSet.is)) c.add_place-in-AssignSet.ensures
    c.add_set.ensures

pub add_statement-returns-in-AssignStructure : goal.add_statement-returns-in-AssignStructure
unfolding statement_of
add_statement-returns-in-AssignStructure t c = adds_two _ _ _ _ _ _
    (sym (ap (λ x. statement_fewest (statement_of x)) c.in-AssignStructure.is)) c.add_place-in-AssignStructure.ensures
    c.add_structure.ensures

pub add_statement-returns-in-Call : goal.add_statement-returns-in-Call
unfolding statement_of
add_statement-returns-in-Call t c = adds_two _ _ _ _ _ _
    (ap (λ l. 1 + arguments_in l) c.deref.ensures.value ∙ sym
    (ap (λ x. statement_fewest (statement_of x)) c.in-Call.is)) c.add.ensures c.add_arguments.ensures

pub add_statement-returns-in-CallFormal : goal.add_statement-returns-in-CallFormal
unfolding statement_of
add_statement-returns-in-CallFormal t c = adds_two _ _ _ _ _ _
    (ap (λ l. 1 + arguments_in l) c.deref-in-CallFormal.ensures.value ∙ sym
    (ap (λ x. statement_fewest (statement_of x)) c.in-CallFormal.is)) c.add-in-CallFormal.ensures
    c.add_arguments-in-CallFormal.ensures

pub add_statement-returns-in-Compound : goal.add_statement-returns-in-Compound
add_statement-returns-in-Compound t c = adds_as _ _ _ _
    (compound_fewest _ _ _ c.in-Compound.is c.deref-in-Compound.ensures.value) c.add_statements.ensures

pub add_statement-returns-in-IfElse : goal.add_statement-returns-in-IfElse
unfolding statement_of
add_statement-returns-in-IfElse t c = adds_three _ _ _ _ _ _ _ _
    (ap₂ (λ a b. expr_fewest (expr_of c.in-IfElse.condition) + statement_fewest (statement_of a) + statement_fewest
    (statement_of b)) c.deref-in-IfElse.ensures c.deref-in-IfElse-2.ensures ∙ sym
    (ap (λ x. statement_fewest (statement_of x)) c.in-IfElse.is)) c.add_expr-in-IfElse.ensures c.add_statement.ensures
    c.add_statement-in-IfElse.ensures

pub add_statement-returns-in-Case : goal.add_statement-returns-in-Case
add_statement-returns-in-Case t c = adds_two _ _ _ _ _ _
    (case_fewest _ _ _ _ _ c.in-Case.is c.deref-in-Case.ensures.value) c.add_expr-in-Case.ensures c.add_elements.ensures

pub add_statement-returns-in-Repeat : goal.add_statement-returns-in-Repeat
add_statement-returns-in-Repeat t c = adds_two _ _ _ _ _ _
    (repeat_fewest _ _ _ _ c.in-Repeat.is c.deref-in-Repeat.ensures.value) c.add_statements-in-Repeat.ensures
    c.add_expr-in-Repeat.ensures

pub add_statement-returns-in-For : goal.add_statement-returns-in-For
unfolding statement_of
add_statement-returns-in-For t c = adds_three _ _ _ _ _ _ _ _
    (ap (λ a. expr_fewest (expr_of a) + expr_fewest (expr_of c.deref-in-For-2.result.now)
    + statement_fewest (statement_of c.deref-in-For-3.result.now)) c.deref-in-For.ensures
    ∙ ap (λ a. expr_fewest (expr_of c.in-For.from.value) + expr_fewest (expr_of a)
    + statement_fewest (statement_of c.deref-in-For-3.result.now)) c.deref-in-For-2.ensures
    ∙ ap (λ a. expr_fewest (expr_of c.in-For.from.value) + expr_fewest (expr_of c.in-For.to.value)
    + statement_fewest (statement_of a)) c.deref-in-For-3.ensures
    ∙ sym (ap (λ x. statement_fewest (statement_of x)) c.in-For.is)) c.add_expr-in-For.ensures
    c.add_expr-in-For-2.ensures c.add_statement-in-For.ensures

pub add_statement-returns-in-With : goal.add_statement-returns-in-With
unfolding statement_of
add_statement-returns-in-With t c = adds_two _ _ _ _ _ _
    (ap₂ (λ l a. places_in l + statement_fewest (statement_of a)) c.deref-in-With.ensures.value
    c.deref-in-With-2.ensures
    ∙ sym (ap (λ x. statement_fewest (statement_of x)) c.in-With.is)) c.add_places.ensures
    c.add_statement-in-With.ensures

pub add_statement-returns-in-New : goal.add_statement-returns-in-New
unfolding statement_of
add_statement-returns-in-New t c = adds_as _ _ _ _
    (sym (ap (λ x. statement_fewest (statement_of x)) c.in-New.is)) c.add_place-in-New.ensures

pub add_statement-returns-in-Pack : goal.add_statement-returns-in-Pack
unfolding statement_of
add_statement-returns-in-Pack t c = adds_three _ _ _ _ _ _ _ _
    (ap₂ (λ a b. place_fewest (place_of a) + expr_fewest (expr_of c.in-Pack.index) + place_fewest (place_of b))
    c.deref-in-Pack.ensures c.deref-in-Pack-2.ensures ∙ sym (ap (λ x. statement_fewest (statement_of x)) c.in-Pack.is))
    c.add_place-in-Pack.ensures c.add_expr-in-Pack.ensures c.add_place-in-Pack-2.ensures

pub add_statement-returns-in-Unpack : goal.add_statement-returns-in-Unpack
unfolding statement_of
add_statement-returns-in-Unpack t c = adds_three _ _ _ _ _ _ _ _
    (ap₂ (λ a b. place_fewest (place_of a) + place_fewest (place_of b) + expr_fewest (expr_of c.in-Unpack.index))
    c.deref-in-Unpack.ensures c.deref-in-Unpack-2.ensures ∙ sym
    (ap (λ x. statement_fewest (statement_of x)) c.in-Unpack.is)) c.add_place-in-Unpack.ensures
    c.add_place-in-Unpack-2.ensures c.add_expr-in-Unpack.ensures

pub add_statement-returns-in-If : goal.add_statement-returns-in-If
add_statement-returns-in-If t c = adds_two _ _ _ _ _ _
    (ap (λ a. expr_fewest (expr_of c.in-If.condition) + statement_fewest (statement_of a)) c.deref-in-If.ensures
    ∙ condition_fewest _ _ _ c.in-If.is) c.add_expr-in-If.ensures c.add_statement-in-If.ensures

pub add_statement-returns-in-Read : goal.add_statement-returns-in-Read
add_statement-returns-in-Read t c = adds_as _ _ _ _
    (ap reads_in c.deref-in-Read.ensures.value ∙ reads_are _ _ c.in-Read.is) c.add_reads.ensures

pub add_statement-returns-in-Write : goal.add_statement-returns-in-Write
add_statement-returns-in-Write t c = adds_as _ _ _ _
    (ap writes_in c.deref-in-Write.ensures.value ∙ writes_are _ _ c.in-Write.is) c.add_writes.ensures
