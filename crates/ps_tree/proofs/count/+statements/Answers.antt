use Rattle.std.proofs.Common.{map, refl, ap, ◌∙◌}
use Rattle.ps_tree.specs.declared.tree.statements.CaseElement.{out-CaseElement}
use Rattle.ps_tree.specs.Counts.{nothing, capped, arguments_extent, places_extent, reads_extent, writes_extent}
use Rattle.ps_tree.specs.Counts.{statement_extent, statements_extent}
use Rattle.ps_tree.specs.View.{place_of, arguments_of, read_of, write_of, statement_of, statements_of}
use Rattle.ps_tree.proofs.Sums.{summed_start, summed_next, summed_all}
use Rattle.ps_tree.proofs.StatementLemmas.{statement_told, told_as, compound_counted, repeat_counted, statements_size}
use Rattle.ps_tree.proofs.StatementLemmas.{statements_none, statements_more, elements_size, elements_none}
use Rattle.ps_tree.proofs.StatementLemmas.{elements_more, case_counted, for_counted, pack_counted, unpack_counted}
use Rattle.ps_tree.proofs.count.+statements.Goals as goal

pub count_statements-loop-statement-init : goal.count_statements-loop-statement-init
count_statements-loop-statement-init t c = summed_start statements_size nothing _ _ refl

pub count_statements-loop-statement-preserved : goal.count_statements-loop-statement-preserved
count_statements-loop-statement-preserved t c = summed_next statements_size
    (λ x. statement_extent (statement_of x)) statements_more nothing _ _ _ _ _ c.statement-item.result
    c.loop-statement-test.true c.loop-statement.invariant
    (c.count_statement.ensures ∙ ap (λ x. capped (statement_extent (statement_of x))) c.statement-item.is)
    c.both-total.ensures

pub count_statements-returns : goal.count_statements-returns
count_statements-returns t c = summed_all statements_size statements_none _ _ _ c.loop-statement-test.false
    c.loop-statement.invariant

pub count_elements-loop-element-init : goal.count_elements-loop-element-init
count_elements-loop-element-init t c = summed_start elements_size nothing _ _ refl

pub count_elements-loop-element-preserved : goal.count_elements-loop-element-preserved
count_elements-loop-element-preserved t c = summed_next elements_size
    (λ x. statement_extent (statement_of (out-CaseElement x).body)) elements_more nothing _ _ _ _ _
    c.element-item.result c.loop-element-test.true c.loop-element.invariant
    (c.count_statement.ensures ∙ ap (λ x. capped (statement_extent (statement_of (out-CaseElement x).body)))
    c.element-item.is) c.both-total.ensures

pub count_elements-returns : goal.count_elements-returns
count_elements-returns t c = summed_all elements_size elements_none _ _ _ c.loop-element-test.false
    c.loop-element.invariant

pub count_statement-returns-in-Case : goal.count_statement-returns-in-Case
count_statement-returns-in-Case t c = c.two-in-Case.ensures _ _ c.count_expr-in-Case.ensures c.count_elements.ensures
    ∙ ap capped (case_counted _ _ _ _ _ c.in-Case.is c.deref-in-Case.ensures.value)

pub count_statement-returns-in-For : goal.count_statement-returns-in-For
count_statement-returns-in-For t c = c.three-in-For.ensures _ _ _
    (c.with_node-in-For.ensures _ c.count_expr-in-For.ensures) c.count_expr-in-For-2.ensures
    c.count_statement-in-For.ensures ∙ ap capped
    (for_counted _ _ _ _ _ _ _ _ _ _ _ _ _ _ c.in-For.is c.deref-in-For.ensures c.deref-in-For-2.ensures
    c.deref-in-For-3.ensures)

pub count_statement-returns-in-Pack : goal.count_statement-returns-in-Pack
count_statement-returns-in-Pack t c = c.three-in-Pack.ensures _ _ _
    (c.with_node-in-Pack.ensures _ c.count_place-in-Pack.ensures)
    (c.with_node-in-Pack-2.ensures _ c.count_expr-in-Pack.ensures)
    (c.with_node-in-Pack-3.ensures _ c.count_place-in-Pack-2.ensures) ∙ ap capped
    (pack_counted _ _ _ _ _ _ _ _ _ c.in-Pack.is c.deref-in-Pack.ensures c.deref-in-Pack-2.ensures)

pub count_statement-returns-in-Unpack : goal.count_statement-returns-in-Unpack
count_statement-returns-in-Unpack t c = c.three-in-Unpack.ensures _ _ _
    (c.with_node-in-Unpack.ensures _ c.count_place-in-Unpack.ensures)
    (c.with_node-in-Unpack-2.ensures _ c.count_place-in-Unpack-2.ensures)
    (c.with_node-in-Unpack-3.ensures _ c.count_expr-in-Unpack.ensures) ∙ ap capped
    (unpack_counted _ _ _ _ _ _ _ _ _ c.in-Unpack.is c.deref-in-Unpack.ensures c.deref-in-Unpack-2.ensures)

pub count_statement-returns-in-Assign : goal.count_statement-returns-in-Assign
unfolding statement_of statement_extent
count_statement-returns-in-Assign t c = c.two.ensures _ _ c.count_place.ensures c.count_expr.ensures
    ∙ told_as _ _ c.in-Assign.is

pub count_statement-returns-in-AssignSet : goal.count_statement-returns-in-AssignSet
unfolding statement_of statement_extent
count_statement-returns-in-AssignSet t c = c.two-in-AssignSet.ensures _ _ c.count_place-in-AssignSet.ensures
    c.count_set.ensures ∙ told_as _ _ c.in-AssignSet.is

pub count_statement-returns-in-AssignStructure : goal.count_statement-returns-in-AssignStructure
unfolding statement_of statement_extent
count_statement-returns-in-AssignStructure t c = c.two-in-AssignStructure.ensures _ _
    c.count_place-in-AssignStructure.ensures c.count_structure.ensures ∙ told_as _ _ c.in-AssignStructure.is

pub count_statement-returns-in-Call : goal.count_statement-returns-in-Call
unfolding statement_of statement_extent
count_statement-returns-in-Call t c = c.with_node.ensures _
    (c.count_arguments.ensures ∙ ap (λ l. capped (arguments_extent (arguments_of l))) c.deref.ensures.value)
    ∙ told_as _ _ c.in-Call.is

pub count_statement-returns-in-CallFormal : goal.count_statement-returns-in-CallFormal
unfolding statement_of statement_extent
count_statement-returns-in-CallFormal t c = c.with_node-in-CallFormal.ensures _
    (c.count_arguments-in-CallFormal.ensures ∙ ap (λ l. capped (arguments_extent (arguments_of l)))
    c.deref-in-CallFormal.ensures.value) ∙ told_as _ _ c.in-CallFormal.is

pub count_statement-returns-in-Compound : goal.count_statement-returns-in-Compound
count_statement-returns-in-Compound t c = c.with_node-in-Compound.ensures _
    (c.count_statements.ensures ∙ ap (λ l. capped (statements_extent (statements_of l)))
    c.deref-in-Compound.ensures.value) ∙ ap capped (compound_counted _ _ c.in-Compound.is)

pub count_statement-returns-in-If : goal.count_statement-returns-in-If
unfolding statement_of statement_extent
count_statement-returns-in-If t c = c.two-in-If.ensures _ _ c.count_expr-in-If.ensures
    (c.count_statement.ensures ∙ ap statement_told c.deref-in-If.ensures) ∙ told_as _ _ c.in-If.is

pub count_statement-returns-in-IfElse : goal.count_statement-returns-in-IfElse
unfolding statement_of statement_extent
count_statement-returns-in-IfElse t c = c.three.ensures _ _ _ c.count_expr-in-IfElse.ensures
    (c.count_statement-in-IfElse.ensures ∙ ap statement_told c.deref-in-IfElse.ensures)
    (c.count_statement-in-IfElse-2.ensures ∙ ap statement_told c.deref-in-IfElse-2.ensures) ∙ told_as _ _ c.in-IfElse.is

pub count_statement-returns-in-While : goal.count_statement-returns-in-While
unfolding statement_of statement_extent
count_statement-returns-in-While t c = c.two-in-While.ensures _ _ c.count_expr-in-While.ensures
    (c.count_statement-in-While.ensures ∙ ap statement_told c.deref-in-While.ensures) ∙ told_as _ _ c.in-While.is

pub count_statement-returns-in-Repeat : goal.count_statement-returns-in-Repeat
count_statement-returns-in-Repeat t c = c.two-in-Repeat.ensures _ _
    (c.count_statements-in-Repeat.ensures ∙ ap (λ l. capped (statements_extent (statements_of l)))
    c.deref-in-Repeat.ensures.value) c.count_expr-in-Repeat.ensures ∙ ap capped (repeat_counted _ _ _ c.in-Repeat.is)

pub count_statement-returns-in-With : goal.count_statement-returns-in-With
unfolding statement_of statement_extent
count_statement-returns-in-With t c = c.two-in-With.ensures _ _
    (c.count_places.ensures ∙ ap (λ l. capped (places_extent (map place_of l))) c.deref-in-With.ensures.value)
    (c.count_statement-in-With.ensures ∙ ap statement_told c.deref-in-With-2.ensures) ∙ told_as _ _ c.in-With.is

pub count_statement-returns-in-New : goal.count_statement-returns-in-New
unfolding statement_of statement_extent
count_statement-returns-in-New t c = c.with_nodes.ensures _ c.count_place-in-New.ensures ∙ told_as _ _ c.in-New.is

pub count_statement-returns-in-Read : goal.count_statement-returns-in-Read
unfolding statement_of statement_extent
count_statement-returns-in-Read t c = c.with_node-in-Read.ensures _
    (c.count_reads.ensures ∙ ap (λ l. capped (reads_extent (map read_of l))) c.deref-in-Read.ensures.value)
    ∙ told_as _ _ c.in-Read.is

pub count_statement-returns-in-Readln : goal.count_statement-returns-in-Readln
unfolding statement_of statement_extent
count_statement-returns-in-Readln t c = c.with_node-in-Readln.ensures _
    (c.count_reads-in-Readln.ensures ∙ ap (λ l. capped (reads_extent (map read_of l))) c.deref-in-Readln.ensures.value)
    ∙ told_as _ _ c.in-Readln.is

pub count_statement-returns-in-Write : goal.count_statement-returns-in-Write
unfolding statement_of statement_extent
count_statement-returns-in-Write t c = c.with_node-in-Write.ensures _
    (c.count_writes.ensures ∙ ap (λ l. capped (writes_extent (map write_of l))) c.deref-in-Write.ensures.value)
    ∙ told_as _ _ c.in-Write.is

pub count_statement-returns-in-Writeln : goal.count_statement-returns-in-Writeln
unfolding statement_of statement_extent
count_statement-returns-in-Writeln t c = c.with_node-in-Writeln.ensures _
    (c.count_writes-in-Writeln.ensures ∙ ap (λ l. capped (writes_extent (map write_of l)))
    c.deref-in-Writeln.ensures.value) ∙ told_as _ _ c.in-Writeln.is
