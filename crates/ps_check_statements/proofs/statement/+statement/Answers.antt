use Rattle.std.proofs.Common.{map, refl}
use Rattle.ps_syntax.specs.declared.statement.Element.{out-Element}
use Rattle.ps_tree.specs.View.{expr_of, statement_of, statements_of}
use Rattle.ps_tree.proofs.StatementLemmas.{statement_of_Case, statement_of_Compound, statement_of_Repeat}
use Rattle.ps_check_judgement.proofs.Lists.{handed_on, told_bind}
use Rattle.ps_check_judgement.proofs.Pairs.{next_told}
use Rattle.ps_check_expressions.specs.View.{context_at, regions_at}
use Rattle.ps_check_expressions.proofs.RoutineLemmas.{still_answers, next_yes}
use Rattle.ps_check_statements.specs.Statements as spec
use Rattle.ps_check_statements.specs.View.{element_of}
use Rattle.ps_check_statements.proofs.Equations.{at_empty, at_assign, at_call, at_compound, at_if, at_if_else, at_case}
use Rattle.ps_check_statements.proofs.Equations.{at_while, at_repeat, at_for, at_with, element_at, statements_listed}
use Rattle.ps_check_statements.proofs.Equations.{elements_listed}
use Rattle.ps_check_statements.proofs.Loops.{added_start, added_next, added_fault, added_end, collected_start}
use Rattle.ps_check_statements.proofs.Loops.{collected_next, collected_fault, collected_end}
use Rattle.ps_check_statements.proofs.Paired.{second_told, second_yes, next_both, both_parts, boxed_answers}
use Rattle.ps_check_statements.proofs.statement.+statement.Goals as goal

-- ---- sequences

pub statements-loop-syntax-init : goal.statements-loop-syntax-init
statements-loop-syntax-init t c = rw c.in_ok-typed.ensures.items
    (added_start (λ s. spec.statement s (context_at c.args.site.now) (regions_at c.args.site.now)) statement_of
    c.args.list.now
    c.args.changes.now.items)

pub statements-loop-syntax-preserved : goal.statements-loop-syntax-preserved
statements-loop-syntax-preserved t c =
    added_next (λ s. spec.statement s (context_at c.args.site.now) (regions_at c.args.site.now)) statement_of
    c.args.list.now _
    c.loop-syntax.syntax-index c.loop-syntax.typed.items _ _ _ c.syntax-item.result c.statement.result
    c.loop-syntax-test.true c.syntax-item.is
    c.loop-syntax.invariant c.statement.ensures c.in_ok-push_answer.ensures.ok

pub statements-returns-in_err-push_answer : goal.statements-returns-in_err-push_answer
unfolding spec.statements
statements-returns-in_err-push_answer t c =
    handed_on _ _ _ _ c.from_residual-in_err-push_answer.ensures.1
    (told_bind _ _ _ (added_fault (λ s. spec.statement s (context_at c.args.site.now) (regions_at c.args.site.now))
    statement_of c.args.list.now _ c.loop-syntax.syntax-index c.loop-syntax.typed.items _ _ c.syntax-item.result
    c.statement.result _
    c.loop-syntax-test.true c.syntax-item.is c.loop-syntax.invariant c.statement.ensures
    c.in_err-push_answer.ensures.err))

pub statements-returns : goal.statements-returns
unfolding spec.statements
statements-returns t c =
    rw (
      added_end (λ s. spec.statement s (context_at c.args.site.now) (regions_at c.args.site.now)) statement_of
          c.args.list.now
          _ c.loop-syntax.syntax-index c.loop-syntax.typed.items _ c.loop-syntax-test.false c.loop-syntax.invariant,
      statements_listed
          c.loop-syntax.typed.items,
    ) refl

-- ---- case elements

pub elements-loop-syntax-init : goal.elements-loop-syntax-init
elements-loop-syntax-init t c =
    rw (c.in_ok-typed.ensures.items, c.with_hasher-seen.ensures.empty)
    (collected_start (context_at c.args.site.now)
    (regions_at c.args.site.now) c.args.index c.args.list.now c.args.changes.now.items)

pub elements-loop-syntax-preserved : goal.elements-loop-syntax-preserved
elements-loop-syntax-preserved t c =
    collected_next (context_at c.args.site.now)
    (regions_at c.args.site.now) c.args.index c.args.list.now _ c.loop-syntax.syntax-index
    c.loop-syntax.seen.keys _ c.loop-syntax.typed.items _ _ _ c.syntax-item.result c.element.result
    c.loop-syntax-test.true c.syntax-item.is
    c.loop-syntax.invariant c.element.ensures.element c.element.ensures.seen c.in_ok-push_answer.ensures.ok

pub elements-returns-in_err-push_answer : goal.elements-returns-in_err-push_answer
elements-returns-in_err-push_answer t c =
    handed_on _ _ _ _ c.from_residual-in_err-push_answer.ensures.1
    (collected_fault (context_at c.args.site.now)
    (regions_at c.args.site.now) c.args.index c.args.list.now _ c.loop-syntax.syntax-index c.loop-syntax.seen.keys
    c.loop-syntax.typed.items
    _ _ c.syntax-item.result c.element.result _ c.loop-syntax-test.true c.syntax-item.is c.loop-syntax.invariant
    c.element.ensures.element c.in_err-push_answer.ensures.err)

pub elements-returns : goal.elements-returns
elements-returns t c = collected_end (context_at c.args.site.now)
    (regions_at c.args.site.now) c.args.index c.args.list.now _ c.loop-syntax.syntax-index c.loop-syntax.seen.keys
    c.loop-syntax.typed.items _
    c.loop-syntax-test.false c.loop-syntax.invariant

pub element-returns-in_err-constants-clause-element : goal.element-returns-in_err-constants-clause-element
element-returns-in_err-constants-clause-element t c =
    handed_on _ _ _ _ c.from_residual.ensures.1
    (rw (element_at, ← c.as_slice.ensures) (next_told _ _ (λ own. own.items)
    (λ s. (statement_of s, c.statement-body.new.changes.items)) c.args.changes.now.items _
    (spec.statement (out-Element c.args.element.now).statement (context_at c.args.site.now)
    (regions_at c.args.site.now)) _ _
    (still_answers _ _ _ _ c.case_labels-constants.ensures.labels) c.statement-body.ensures
    c.in_err-constants.ensures))

pub element-returns-clause-element : goal.element-returns-clause-element
element-returns-clause-element t c =
    rw (element_at, ← c.as_slice.ensures) (next_yes _ _ (λ own. own.items)
    (λ s. (statement_of s, c.statement-body.new.changes.items)) c.args.changes.now.items _
    (spec.statement (out-Element c.args.element.now).statement (context_at c.args.site.now)
    (regions_at c.args.site.now)) _ _ _
    (still_answers _ _ _ _ c.case_labels-constants.ensures.labels) c.statement-body.ensures
    c.in_ok-constants.ensures)

pub element-returns-clause-seen : goal.element-returns-clause-seen
element-returns-clause-seen t c =
    let parts = both_parts _ _ _ _ c.in_ok-constants.ensures in
    rw parts.0 at c.case_labels-constants.ensures.seen

pub case_statement-returns-in_err-index : goal.case_statement-returns-in_err-index
case_statement-returns-in_err-index t c = handed_on _ _ _ _ c.from_residual.ensures.1
    (told_bind _ _ _ c.in_err-index.ensures)

pub case_statement-returns-in_err-index-2 : goal.case_statement-returns-in_err-index-2
case_statement-returns-in_err-index-2 t c =
    handed_on _ _ _ _ c.from_residual-in_err-index-2.ensures.1
    (rw c.in_ok-index.ensures (second_told c.in_ok-index.index c.elements-elements.result
    (λ es. (map element_of es.items, c.elements-elements.new.changes.items))
    (spec.elements (context_at c.args.site.now) (regions_at c.args.site.now) c.in_ok-index.ordinal
    (map spec.element c.args.list.now) c.index_at.new.changes.items) _ _ c.elements-elements.ensures
    c.in_err-index-2.ensures))

pub case_statement-returns : goal.case_statement-returns
case_statement-returns t c =
    let parts = second_yes c.in_ok-index.index c.elements-elements.result
    (λ es. (map element_of es.items, c.elements-elements.new.changes.items))
    (spec.elements (context_at c.args.site.now) (regions_at c.args.site.now) c.in_ok-index.ordinal
    (map spec.element c.args.list.now) c.index_at.new.changes.items) _ _ c.elements-elements.ensures
    c.in_ok-index-2.ensures in
    rw (c.in_ok-index.ensures, parts.1, parts.0, statement_of_Case, elements_listed, c.line.ensures) refl

-- ---- two parts

pub boxed-returns : goal.boxed-returns
boxed-returns t c = boxed_answers _ c.statement.result (λ b. b.value)
    (λ s. (statement_of s, c.statement.new.changes.items)) _ c.statement.ensures c.boxed_answer.ensures.ok
    c.boxed_answer.ensures.err

pub governed-returns : goal.governed-returns
governed-returns t c =
    next_both (λ e. expr_of e) (λ s. statement_of s.value) c.condition_at-condition.new.changes.items
    c.boxed-body.new.changes.items _ (spec.statement c.args.body.now (context_at c.args.site.now)
    (regions_at c.args.site.now)) c.paired.result c.condition_at-condition.result c.boxed-body.result
    c.condition_at-condition.ensures c.boxed-body.ensures c.paired.ensures

pub if_else_statement-returns-in_err-condition : goal.if_else_statement-returns-in_err-condition
if_else_statement-returns-in_err-condition t c =
    handed_on _ _ _ _ c.from_residual.ensures.1
    (next_told _ _ (λ p. (expr_of p.0, statement_of p.1.value))
    (λ s. (statement_of s.value, c.boxed-otherwise.new.changes.items)) c.governed-first.new.changes.items _
    (spec.statement c.args.otherwise.now (context_at c.args.site.now) (regions_at c.args.site.now)) _ _
    c.governed-first.ensures c.boxed-otherwise.ensures c.in_err-condition.ensures)

pub if_else_statement-returns : goal.if_else_statement-returns
unfolding statement_of
if_else_statement-returns t c =
    next_yes _ _ (λ p. (expr_of p.0, statement_of p.1.value))
    (λ s. (statement_of s.value, c.boxed-otherwise.new.changes.items)) c.governed-first.new.changes.items _
    (spec.statement c.args.otherwise.now (context_at c.args.site.now) (regions_at c.args.site.now)) _ _ _
    c.governed-first.ensures c.boxed-otherwise.ensures c.in_ok-condition.ensures

pub repeat_statement-returns-in_err-body : goal.repeat_statement-returns-in_err-body
repeat_statement-returns-in_err-body t c =
    handed_on _ _ _ _ c.from_residual.ensures.1
    (next_told _ _ (λ ss. statements_of ss.items)
    (λ e. (expr_of e, c.condition_at-condition.new.changes.items)) c.statements-body.new.changes.items _
    (spec.condition_at (context_at c.args.site.now)
    (regions_at c.args.site.now) c.args.condition.now) _ _ c.statements-body.ensures
    c.condition_at-condition.ensures c.in_err-body.ensures)

pub repeat_statement-returns : goal.repeat_statement-returns
repeat_statement-returns t c =
    rw statement_of_Repeat (next_yes _ _ (λ ss. statements_of ss.items)
    (λ e. (expr_of e, c.condition_at-condition.new.changes.items)) c.statements-body.new.changes.items _
    (spec.condition_at (context_at c.args.site.now) (regions_at c.args.site.now) c.args.condition.now) _ _ _
    c.statements-body.ensures c.condition_at-condition.ensures c.in_ok-body.ensures)

pub for_statement-returns-in_err-head : goal.for_statement-returns-in_err-head
for_statement-returns-in_err-head t c = handed_on _ _ _ _ c.from_residual.ensures.1
    (told_bind _ _ _ c.in_err-head.ensures.head)

pub for_statement-returns-in_err-head-2 : goal.for_statement-returns-in_err-head-2
for_statement-returns-in_err-head-2 t c =
    let h = rw (
      c.with_controls.ensures.context,
      c.with_controls.ensures.regions,
      c.as_slice.ensures.value,
      c.in_ok-head.ensures.controls,
    ) at c.boxed-body.ensures in
    handed_on _ _ _ _ c.from_residual-in_err-head-2.ensures.1
    (rw c.in_ok-head.ensures.head (second_told c.in_ok-head.head c.boxed-body.result
    (λ s. (statement_of s.value, c.boxed-body.new.changes.items)) _ _ _ h c.in_err-head-2.ensures))

pub for_statement-returns : goal.for_statement-returns
for_statement-returns t c =
    let h = rw (
      c.with_controls.ensures.context,
      c.with_controls.ensures.regions,
      c.as_slice.ensures.value,
      c.in_ok-head.ensures.controls,
    ) at c.boxed-body.ensures in
    let parts = second_yes c.in_ok-head.head c.boxed-body.result
    (λ s. (statement_of s.value, c.boxed-body.new.changes.items)) _ _ _ h c.in_ok-head-2.ensures in
    rw (c.in_ok-head.ensures.head, parts.1, parts.0, c.repeated.ensures) refl

-- ---- one construct

pub statement-returns-in-Empty : goal.statement-returns-in-Empty
unfolding statement_of
statement-returns-in-Empty t c = rw (c.in-Empty.is, at_empty) refl

pub statement-returns-in-Assign : goal.statement-returns-in-Assign
statement-returns-in-Assign t c = rw (c.in-Assign.is, at_assign, ← c.get.ensures) c.assignment.ensures

pub statement-returns-in-Call : goal.statement-returns-in-Call
statement-returns-in-Call t c = rw (c.in-Call.is, at_call, ← c.as_slice.ensures) c.procedure_statement.ensures

pub statement-returns-in_ok-statements-in-Compound : goal.statement-returns-in_ok-statements-in-Compound
statement-returns-in_ok-statements-in-Compound t c = rw (
  c.in-Compound.is,
  at_compound,
  ← c.as_slice-in-Compound.ensures,
  c.in_ok-statements-in-Compound.ensures,
  statement_of_Compound,
) refl

pub statement-returns-in_err-statements-in-Compound : goal.statement-returns-in_err-statements-in-Compound
statement-returns-in_err-statements-in-Compound t c =
    handed_on _ _ _ _ c.from_residual.ensures.1
    (rw (c.in-Compound.is, at_compound, ← c.as_slice-in-Compound.ensures)
    (told_bind _ _ _ c.in_err-statements-in-Compound.ensures))

pub statement-returns-in_ok-condition-in-If : goal.statement-returns-in_ok-condition-in-If
unfolding statement_of
statement-returns-in_ok-condition-in-If t c = rw
    (c.in-If.is, at_if, ← c.get-in-If.ensures, ← c.get-in-If-2.ensures, c.in_ok-condition-in-If.ensures) refl

pub statement-returns-in_err-condition-in-If : goal.statement-returns-in_err-condition-in-If
statement-returns-in_err-condition-in-If t c =
    handed_on _ _ _ _ c.from_residual-in_err-condition-in-If.ensures.1
    (rw (c.in-If.is, at_if, ← c.get-in-If.ensures, ← c.get-in-If-2.ensures)
    (told_bind _ _ _ c.in_err-condition-in-If.ensures))

pub statement-returns-in-IfElse : goal.statement-returns-in-IfElse
statement-returns-in-IfElse t c = rw (
  c.in-IfElse.is,
  at_if_else,
  ← c.get-in-IfElse.ensures,
  ←
      c.get-in-IfElse-2.ensures,
  ← c.get-in-IfElse-3.ensures,
) c.if_else_statement.ensures

pub statement-returns-in-Case : goal.statement-returns-in-Case
statement-returns-in-Case t c = rw (c.in-Case.is, at_case, ← c.as_slice-in-Case.ensures, ← c.get-in-Case.ensures)
    c.case_statement.ensures

pub statement-returns-in_ok-condition-in-While : goal.statement-returns-in_ok-condition-in-While
unfolding statement_of
statement-returns-in_ok-condition-in-While t c = rw
    (c.in-While.is, at_while, ← c.get-in-While.ensures, ← c.get-in-While-2.ensures, c.in_ok-condition-in-While.ensures)
    refl

pub statement-returns-in_err-condition-in-While : goal.statement-returns-in_err-condition-in-While
statement-returns-in_err-condition-in-While t c =
    handed_on _ _ _ _ c.from_residual-in_err-condition-in-While.ensures.1
    (rw (c.in-While.is, at_while, ← c.get-in-While.ensures, ← c.get-in-While-2.ensures)
    (told_bind _ _ _ c.in_err-condition-in-While.ensures))

pub statement-returns-in-Repeat : goal.statement-returns-in-Repeat
statement-returns-in-Repeat t c = rw (
  c.in-Repeat.is,
  at_repeat,
  ← c.as_slice-in-Repeat.ensures,
  ←
      c.get-in-Repeat.ensures,
) c.repeat_statement.ensures

pub statement-returns-in-For : goal.statement-returns-in-For
statement-returns-in-For t c = rw (
  c.in-For.is,
  at_for,
  ← c.get-in-For.ensures,
  ← c.get-in-For-2.ensures,
  ←
      c.get-in-For-3.ensures,
) c.for_statement.ensures

pub statement-returns-in-With : goal.statement-returns-in-With
statement-returns-in-With t c = rw (c.in-With.is, at_with, ← c.get-in-With.ensures, ← c.as_slice-in-With.ensures)
    c.with_statement.ensures
