use Rattle.std.proofs.Common.{rules, arith, ◌≡◌, [], ◌∷◌, ◌++◌, length, map, OnOk, ap, subst, ◌∙◌}
use borrow.Author.Rules.{get_or_read}
use Rattle.ps_tree.specs.declared.tree.statements.Statement.TheFolds.{the_lemmas}
use Rattle.ps_tree.specs.View.{expr_of, place_of, statement_of, statements_of, elements_of}
use Rattle.ps_tree.specs.declared.tree.statements.CaseElement.{out-CaseElement}
use Rattle.ps_lower_code.specs.Values.{front_code, opposite}
use Rattle.ps_lower_code.specs.Statements.{statement_code, statements_code}
use Rattle.ps_lower.specs.Levels.{scope_of, opened_of, opened_within, where_open}
use Rattle.ps_lower.proofs.Gathering.{assign_set_is}
use Rattle.ps_lower.proofs.Deeds.{assign_structure_is, procedure_is, formal_procedure_is, with_is, with_told}
use Rattle.ps_lower.proofs.Doings.{new_is, pack_is, unpack_is, read_is, readln_is}
use Rattle.ps_lower.proofs.Appends.{added_start, added_next, added_all}
use Rattle.ps_lower.proofs.Rows.{statements_added, statements_nothing, statements_further}
use Rattle.ps_lower.proofs.Acts.{act, act_lifted, room_in, told_empty, assign_is, compound_is, if_is, if_else_is}
use Rattle.ps_lower.proofs.Acts.{while_is, repeat_is, write_is, writeln_is}
use Rattle.ps_lower.proofs.Jumps.{jump_past, jump_past_room, room_behind, jump_behind, back_over, back_from_test}
use Rattle.ps_lower.proofs.Jumps.{branch_told, back_told}
use Rattle.ps_lower.specs.Loops.{turns_of, loop_code}
use Rattle.ps_lower.specs.declared.turns.Control.{Control}
use Rattle.ps_lower.specs.declared.turns.Turns.{Turns}
use Rattle.ps_lower.proofs.Loops.{for_is, loop_made}
use Rattle.ps_lower.specs.Cases.{element_code, open_elements}
use Rattle.ps_lower.proofs.Refusing.{handed_on, item_refused, element_refused, among_refused, case_refused}
use Rattle.ps_lower.proofs.Elements.{case_is, element_made, element_end, one_element, opened_start, opened_next}
use Rattle.ps_lower.proofs.Elements.{opened_all, ends_all, case_made}
use Rattle.ps_tree.specs.Tree as tree
use Rattle.tac_code.specs.declared.code.Instruction.TheVariants as i
use Rattle.ps_lower_bounds.specs.Weights.{statement_weight}
use Rattle.ps_lower.proofs.Weighing.{statement_in, element_in, body_room}
use Rattle.ps_lower.proofs.statements.+statements.Goals as goal

pub statements-loop-one-init : goal.statements-loop-one-init
statements-loop-one-init t c = added_start (statements_added (scope_of c.args.level.now) c.args.d) _ _

pub statements-loop-one-preserved : goal.statements-loop-one-preserved
statements-loop-one-preserved t c = added_next (statements_added (scope_of c.args.level.now) c.args.d)
    (λ s. statement_code (scope_of c.args.level.now) (statement_of s) c.args.d)
    (statements_further (scope_of c.args.level.now) c.args.d) _ _ _ _ _ c.one-item.result c.loop-one-test.true
    c.loop-one.invariant (c.in_ok-statement.ensures
    ∙ ap (λ s. c.loop-one.out ++ statement_code (scope_of c.args.level.now) (statement_of s) c.args.d) c.one-item.is)

pub statements-returns : goal.statements-returns
statements-returns t c = added_all (statements_added (scope_of c.args.level.now) c.args.d)
    (statements_nothing (scope_of c.args.level.now) c.args.d) _ _ _ _ c.loop-one-test.false c.loop-one.invariant

pub act-returns-in-Empty : goal.act-returns-in-Empty
act-returns-in-Empty t c = told_empty
    (scope_of c.args.level.now) c.args.action.now c.args.d c.args.out.now c.in-Empty.is

pub act-returns-in-Assign : goal.act-returns-in-Assign
act-returns-in-Assign t c = act_lifted
    (scope_of c.args.level.now) c.args.action.now _ c.args.d c.assign.result c.lifted.result c.assign.new.out
    c.args.out.now (assign_is _ _ _ _ _ c.in-Assign.is) c.lifted.ensures c.assign.ensures

pub act-returns-in-Compound : goal.act-returns-in-Compound
act-returns-in-Compound t c = act (scope_of c.args.level.now) c.args.action.now _ c.args.d c.statements.result
    c.statements.new.out c.args.out.now (compound_is _ _ _ c.in-Compound.is c.deref.ensures.value) c.statements.ensures

pub act-returns-in-If : goal.act-returns-in-If
act-returns-in-If t c = act (scope_of c.args.level.now) c.args.action.now _ c.args.d c.act_if.result c.act_if.new.out
    c.args.out.now (if_is _ _ _ _ c.in-If.is c.deref-in-If.ensures) c.act_if.ensures

pub act-returns-in-While : goal.act-returns-in-While
act-returns-in-While t c = act (scope_of c.args.level.now) c.args.action.now _ c.args.d c.act_while.result
    c.act_while.new.out c.args.out.now (while_is _ _ _ _ c.in-While.is c.deref-in-While.ensures) c.act_while.ensures

pub act-returns-in-Repeat : goal.act-returns-in-Repeat
act-returns-in-Repeat t c = act (scope_of c.args.level.now) c.args.action.now _ c.args.d c.act_repeat.result
    c.act_repeat.new.out c.args.out.now (repeat_is _ _ _ _ c.in-Repeat.is c.deref-in-Repeat.ensures.value)
    c.act_repeat.ensures

pub act-returns-in-Write : goal.act-returns-in-Write
act-returns-in-Write t c = act_lifted
    (scope_of c.args.level.now) c.args.action.now _ c.args.d c.writes.result c.lifted-in-Write.result c.writes.new.out
    c.args.out.now (write_is _ _ _ c.in-Write.is c.deref-in-Write.ensures.value) c.lifted-in-Write.ensures
    c.writes.ensures

pub act-returns-in-Writeln : goal.act-returns-in-Writeln
act-returns-in-Writeln t c = act_lifted
    (scope_of c.args.level.now) c.args.action.now _ c.args.d c.writeln.result c.lifted-in-Writeln.result
    c.writeln.new.out
    c.args.out.now (writeln_is _ _ _ c.in-Writeln.is c.deref-in-Writeln.ensures.value) c.lifted-in-Writeln.ensures
    c.writeln.ensures

pub act-returns-in_ok-statement-in-IfElse : goal.act-returns-in_ok-statement-in-IfElse
act-returns-in_ok-statement-in-IfElse t c =
    jump_behind c.args.out.now c.then_part.new.out c.statement.new.out c.set_jump.new.self _ _ _ _ i.End
    c.in_ok-end-in-IfElse.end (λ n. i.Jump n) c.in_ok-end-in-IfElse.ensures.code c.in_ok-end-in-IfElse.ensures.place
    c.in_ok-statement-in-IfElse.ensures c.set_jump.ensures
    ∙ ap (λ (y : tree.Statement). c.args.out.now ++ statement_code (scope_of c.args.level.now) y c.args.d)
    (if_else_is _ _ _ _ _ _ c.in-IfElse.is c.deref-in-IfElse.ensures c.deref-in-IfElse-2.ensures)

pub act-returns-in-For : goal.act-returns-in-For
act-returns-in-For t c =
    act (scope_of c.args.level.now) c.args.action.now _ c.args.d c.act_for.result c.act_for.new.out c.args.out.now
    (ap (λ (y : Control). tree.For y.variable y.low y.high (expr_of c.deref-in-For-2.result.now) y.from_line.number
    y.direction (expr_of c.deref-in-For-3.result.now) y.to_line.number (statement_of c.deref-in-For.result.now))
    c.control_of-control.ensures ∙ for_is _ _ _ _ _ _ _ _ _ _ _ _ _ _ c.in-For.is c.deref-in-For-2.ensures
    c.deref-in-For-3.ensures c.deref-in-For.ensures)
    c.act_for.ensures

pub act-returns-in-Case : goal.act-returns-in-Case
act-returns-in-Case t c = act (scope_of c.args.level.now) c.args.action.now _ c.args.d c.act_case.result
    c.act_case.new.out c.args.out.now (case_is _ _ _ _ _ c.in-Case.is c.deref-in-Case.ensures.value) c.act_case.ensures

pub act_for-returns : goal.act_for-returns
act_for-returns t c =
    loop_made (scope_of c.args.level.now) c.args.control (expr_of c.args.from.now)
    (expr_of c.args.to.now) c.turns_of-turns.result
    (statement_of c.args.body.now) c.args.out.now c.open_turns.new.out c.statement.new.out c.end_turn.new.out
    c.set_branch.new.self c.in_ok-places.places.past c.in_ok-places.places.begin c.past_relation-relation.result
    c.in_ok-places.ensures.code c.in_ok-places.ensures.past c.in_ok-places.ensures.begin c.in_ok-statement.ensures
    c.in_ok-end_turn.ensures c.past_relation-relation.ensures c.set_branch.ensures
    ∙ ap (λ (y : Turns). c.args.out.now ++ loop_code (scope_of c.args.level.now) c.args.control
    (expr_of c.args.from.now) (expr_of c.args.to.now) y (statement_of c.args.body.now))
    (c.turns_of-turns.ensures.value ∙ ap (λ calls. turns_of (scope_of c.args.level.now) c.args.control.variable
    (expr_of c.args.to.now) calls c.args.d) c.statement_calls.ensures)

pub act_element-returns-clause-code : goal.act_element-returns-clause-code
act_element-returns-clause-code t c = element_made (scope_of c.args.level.now) _ _ _
    (statement_of (out-CaseElement c.args.element.now).body) c.args.d _ c.args.out.now _ _ _ _ c.deref.ensures.value
    c.deref-2.ensures.value c.in_ok-last.ensures.code c.in_ok-last.ensures.place c.in_ok-statement.ensures
    c.in_ok-end.ensures.room c.close_tests.ensures

pub act_element-returns-clause-place : goal.act_element-returns-clause-place
act_element-returns-clause-place t c = element_end (scope_of c.args.level.now) _ _
    (statement_of (out-CaseElement c.args.element.now).body) c.args.d _ c.args.out.now _ _ c.deref.ensures.value
    c.in_ok-last.ensures.code c.in_ok-statement.ensures c.in_ok-end.ensures.place

pub act_elements-loop-element-init : goal.act_elements-loop-element-init
act_elements-loop-element-init t c = opened_start (scope_of c.args.level.now) c.args.d _ _ _ c.new-ends.ensures.items

pub act_elements-loop-element-preserved : goal.act_elements-loop-element-preserved
act_elements-loop-element-preserved t c =
    opened_next (scope_of c.args.level.now) c.args.d _ _ _ _ _ _ _ _ c.element-item.result c.loop-element-test.true
    c.loop-element.invariant
    (c.in_ok-end.ensures.code ∙ ap
    (λ x. (c.loop-element.out ++ one_element (scope_of c.args.level.now) x c.args.d) ++ i.End ∷ []) c.element-item.is)
    (c.in_ok-end.ensures.place ∙ ap
    (λ x. length (c.loop-element.out ++ one_element (scope_of c.args.level.now) x c.args.d)) c.element-item.is)
    c.in_ok-push.ensures.items

pub act_elements-returns-clause-code : goal.act_elements-returns-clause-code
act_elements-returns-clause-code t c = opened_all
    (scope_of c.args.level.now) c.args.d _ _ _ _ _ c.loop-element-test.false c.loop-element.invariant

pub act_elements-returns-clause-ends : goal.act_elements-returns-clause-ends
act_elements-returns-clause-ends t c = ends_all
    (scope_of c.args.level.now) c.args.d _ _ _ _ _ c.loop-element-test.false c.loop-element.invariant

pub act_case-returns : goal.act_case-returns
act_case-returns t c = case_made (scope_of c.args.level.now) (expr_of c.args.index.now)
    (elements_of c.args.elements.now) c.args.line.number c.args.d c.args.out.now _ _ _ _ _ c.in_ok-value.ensures
    c.in_ok-ends.ensures.code (c.deref.ensures.value ∙ c.in_ok-ends.ensures.ends) c.in_ok-trap.ensures
    c.close_elements.ensures

pub act-returns-in-AssignStructure : goal.act-returns-in-AssignStructure
act-returns-in-AssignStructure t c = act_lifted
    (scope_of c.args.level.now) c.args.action.now _ c.args.d c.assign_structure.result
    c.lifted-in-AssignStructure.result c.assign_structure.new.out c.args.out.now
    (assign_structure_is _ _ _ c.in-AssignStructure.is) c.lifted-in-AssignStructure.ensures c.assign_structure.ensures

pub act-returns-in-Call : goal.act-returns-in-Call
act-returns-in-Call t c = act_lifted
    (scope_of c.args.level.now) c.args.action.now _ c.args.d c.call_procedure.result c.lifted-in-Call.result
    c.call_procedure.new.out c.args.out.now (procedure_is _ _ _ _ _ _ c.in-Call.is c.deref-in-Call.ensures.value)
    c.lifted-in-Call.ensures c.call_procedure.ensures

pub act-returns-in-CallFormal : goal.act-returns-in-CallFormal
act-returns-in-CallFormal t c = act_lifted
    (scope_of c.args.level.now) c.args.action.now _ c.args.d c.call_formal_procedure.result
    c.lifted-in-CallFormal.result c.call_formal_procedure.new.out c.args.out.now
    (formal_procedure_is _ _ _ _ _ _ c.in-CallFormal.is c.deref-in-CallFormal.ensures.value)
    c.lifted-in-CallFormal.ensures c.call_formal_procedure.ensures

pub act-returns-in-With : goal.act-returns-in-With
act-returns-in-With t c = act (scope_of c.args.level.now) c.args.action.now _ c.args.d c.act_with.result
    c.act_with.new.out c.args.out.now (with_is _ _ _ _ _ c.in-With.is c.deref-in-With-2.ensures.value
    c.deref-in-With.ensures) c.act_with.ensures

pub act_with-returns : goal.act_with-returns
act_with-returns t c =
    with_told (scope_of c.args.level.now) (map place_of c.args.places.now)
    (statement_of c.args.body.now) c.with_calls-calls.result c.args.d c.in_ok-opened.opened.depth
    (where_open (scope_of c.args.level.now)
    (opened_within (opened_of c.in_ok-opened.opened.outer.now) c.as_slice.result.now))
    c.statement.result c.statement.new.out c.open_within.new.out c.args.out.now
    c.with_calls-calls.ensures c.in_ok-opened.ensures.code
    (ap (λ l. where_open (scope_of c.args.level.now) (opened_within (opened_of c.in_ok-opened.opened.outer.now) l))
    c.as_slice.ensures.value ∙ c.in_ok-opened.ensures.scope)
    c.in_ok-opened.ensures.depth c.statement.ensures

pub act-returns-in-AssignSet : goal.act-returns-in-AssignSet
act-returns-in-AssignSet t c = act_lifted
    (scope_of c.args.level.now) c.args.action.now _ c.args.d c.assign_set.result c.lifted-in-AssignSet.result
    c.assign_set.new.out c.args.out.now (assign_set_is _ _ _ _ _ _ c.in-AssignSet.is) c.lifted-in-AssignSet.ensures
    c.assign_set.ensures

pub act-returns-in-New : goal.act-returns-in-New
act-returns-in-New t c = act_lifted
    (scope_of c.args.level.now) c.args.action.now _ c.args.d c.create.result c.lifted-in-New.result c.create.new.out
    c.args.out.now (new_is _ _ _ _ c.in-New.is) c.lifted-in-New.ensures c.create.ensures

pub act-returns-in-Pack : goal.act-returns-in-Pack
act-returns-in-Pack t c = act_lifted
    (scope_of c.args.level.now) c.args.action.now _ c.args.d c.pack.result c.lifted-in-Pack.result c.pack.new.out
    c.args.out.now (pack_is _ _ _ _ _ _ _ _ _ _ _ c.in-Pack.is c.deref-in-Pack.ensures c.deref-in-Pack-2.ensures
    c.deref-in-Pack-3.ensures c.deref-in-Pack-4.ensures)
    c.lifted-in-Pack.ensures c.pack.ensures

pub act-returns-in-Unpack : goal.act-returns-in-Unpack
act-returns-in-Unpack t c = act_lifted
    (scope_of c.args.level.now) c.args.action.now _ c.args.d c.unpack.result c.lifted-in-Unpack.result c.unpack.new.out
    c.args.out.now (unpack_is _ _ _ _ _ _ _ _ _ _ _ c.in-Unpack.is c.deref-in-Unpack.ensures c.deref-in-Unpack-2.ensures
    c.deref-in-Unpack-3.ensures c.deref-in-Unpack-4.ensures)
    c.lifted-in-Unpack.ensures c.unpack.ensures

pub act-returns-in-Read : goal.act-returns-in-Read
act-returns-in-Read t c = act_lifted
    (scope_of c.args.level.now) c.args.action.now _ c.args.d c.reads.result c.lifted-in-Read.result c.reads.new.out
    c.args.out.now (read_is _ _ _ c.in-Read.is c.deref-in-Read.ensures.value) c.lifted-in-Read.ensures c.reads.ensures

pub act-returns-in-Readln : goal.act-returns-in-Readln
act-returns-in-Readln t c = act_lifted
    (scope_of c.args.level.now) c.args.action.now _ c.args.d c.readln.result c.lifted-in-Readln.result c.readln.new.out
    c.args.out.now (readln_is _ _ _ _ c.in-Readln.is c.deref-in-Readln.ensures.value) c.lifted-in-Readln.ensures
    c.readln.ensures

-- ---- jumps

pub act_if-returns : goal.act_if-returns
act_if-returns t c =
    jump_past c.args.out.now c.front.new.out c.room.new.self c.statement.new.out c.set_branch.new.self _ _ i.End
    c.in_ok-past.past (λ n. i.Branch c.opposite-relation.result c.left_in.result c.right_in.result n)
    c.in_ok-front.ensures c.in_ok-past.ensures.room c.in_ok-past.ensures.place c.in_ok-statement.ensures
    c.set_branch.ensures
    ∙ ap (λ j. c.args.out.now ++ (front_code (scope_of c.args.level.now) (expr_of c.args.condition.now) c.args.d 0 ++ j
    ∷ statement_code (scope_of c.args.level.now) (statement_of c.args.body.now) c.args.d))
    (branch_told _ _ _ _ _ _ _ (c.opposite-relation.ensures ∙ ap opposite c.relation_in.ensures) c.left_in.ensures
    c.right_in.ensures)

pub then_part-returns-clause-code : goal.then_part-returns-clause-code
then_part-returns-clause-code t c =
    jump_past_room c.args.out.now c.front.new.out c.room.new.self c.statement.new.out c.room-2.new.self
    c.set_branch.new.self _ _ i.End i.End c.in_ok-past.past
    (λ n. i.Branch c.opposite-relation.result c.left_in.result c.right_in.result n)
    c.in_ok-front.ensures c.in_ok-past.ensures.room c.in_ok-past.ensures.place c.in_ok-statement.ensures
    c.in_ok-end.ensures.room c.set_branch.ensures
    ∙ ap (λ j. (c.args.out.now ++ (front_code (scope_of c.args.level.now) (expr_of c.args.condition.now) c.args.d 0 ++ j
    ∷ statement_code (scope_of c.args.level.now) (statement_of c.args.body.now) c.args.d)) ++ i.End ∷ [])
    (branch_told _ _ _ _ _ _ _ (c.opposite-relation.ensures ∙ ap opposite c.relation_in.ensures) c.left_in.ensures
    c.right_in.ensures)

pub then_part-returns-clause-place : goal.then_part-returns-clause-place
then_part-returns-clause-place t c = room_behind c.args.out.now c.front.new.out c.room.new.self c.statement.new.out _ _
    i.End _ c.in_ok-end.end c.in_ok-front.ensures c.in_ok-past.ensures.room c.in_ok-statement.ensures
    c.in_ok-end.ensures.place

pub act_while-returns : goal.act_while-returns
act_while-returns t c = c.lifted.ensures c.args.out.now c.branch_back.new.self
    (statement_code (scope_of c.args.level.now)
    (tree.While (expr_of c.args.condition.now) (statement_of c.args.body.now)) c.args.d)
    (subst (λ j. OnOk c.branch_back.result (c.branch_back.new.self ≡ c.args.out.now ++ i.Jump
    (length (statement_code (scope_of c.args.level.now) (statement_of c.args.body.now) c.args.d))
    ∷ ((statement_code (scope_of c.args.level.now) (statement_of c.args.body.now) c.args.d ++ front_code
    (scope_of c.args.level.now) (expr_of c.args.condition.now) c.args.d 0) ++ j ∷ [])))
    (back_told _ _ _ _ _ _ _ c.relation_in-relation.ensures c.left_in.ensures c.right_in.ensures)
    (back_from_test c.branch_back.result c.args.out.now c.room.new.self c.statement.new.out c.set_jump.new.self
    c.front.new.out c.branch_back.new.self _ _ i.End c.in_ok-to_test.to_test c.place-begin.result (λ n. i.Jump n)
    (λ n. i.BranchBack c.relation_in-relation.result c.left_in.result c.right_in.result n)
    c.in_ok-to_test.ensures.room c.in_ok-to_test.ensures.place c.place-begin.ensures c.in_ok-statement.ensures
    c.set_jump.ensures c.in_ok-front.ensures c.branch_back.ensures))

pub act_repeat-returns : goal.act_repeat-returns
act_repeat-returns t c = c.lifted.ensures c.args.out.now c.branch_back.new.self
    (statement_code (scope_of c.args.level.now)
    (tree.Repeat (statements_of c.args.body.now) (expr_of c.args.condition.now)) c.args.d)
    (subst (λ j. OnOk c.branch_back.result (c.branch_back.new.self ≡ c.args.out.now
    ++ ((statements_code (scope_of c.args.level.now) (statements_of c.args.body.now) c.args.d ++ front_code
    (scope_of c.args.level.now) (expr_of c.args.condition.now) c.args.d 0) ++ j ∷ [])))
    (back_told _ _ _ _ _ _ _ (c.opposite-relation.ensures ∙ ap opposite c.relation_in.ensures) c.left_in.ensures
    c.right_in.ensures)
    (back_over c.branch_back.result c.args.out.now c.statements.new.out c.front.new.out c.branch_back.new.self _ _
    c.place-begin.result (λ n. i.BranchBack c.opposite-relation.result c.left_in.result c.right_in.result n)
    c.place-begin.ensures c.in_ok-statements.ensures c.in_ok-front.ensures c.branch_back.ensures))

-- ---- room for what is called

pub act_elements-act_element-requires : goal.act_elements-act_element-requires
act_elements-act_element-requires t c =
    let l = element_in (scope_of c.args.level.now) c.args.d c.args.elements.now c.loop-element.element-index
    c.element-item.result c.loop-element-test.true c.element-item.is in
    let r = c.requires in
    (search (rules, the_lemmas, get_or_read), omega (arith, l, r))

pub act_with-statement-requires : goal.act_with-statement-requires
act_with-statement-requires t c = (
  search (rules, the_lemmas, get_or_read),
  body_room (scope_of c.args.level.now) (map place_of c.args.places.now)
      (statement_of c.args.body.now) c.with_calls-calls.result c.args.d c.in_ok-opened.opened.depth
      (where_open (scope_of c.args.level.now)
      (opened_within (opened_of c.in_ok-opened.opened.outer.now) c.as_slice.result.now))
      c.with_calls-calls.ensures (ap (λ l. where_open (scope_of c.args.level.now)
      (opened_within (opened_of c.in_ok-opened.opened.outer.now) l)) c.as_slice.ensures.value
      ∙ c.in_ok-opened.ensures.scope) c.in_ok-opened.ensures.depth c.requires,
)

pub act-assign-requires : goal.act-assign-requires
act-assign-requires t c = let l = room_in (scope_of c.args.level.now) c.args.action.now _ c.args.d
    (assign_is _ _ _ _ _ c.in-Assign.is) c.requires in l

pub act-statements-requires : goal.act-statements-requires
act-statements-requires t c = let l = room_in (scope_of c.args.level.now) c.args.action.now _ c.args.d
    (compound_is _ _ _ c.in-Compound.is c.deref.ensures.value) c.requires
    in (search (rules, the_lemmas, get_or_read), l)

pub act-act_if-requires : goal.act-act_if-requires
act-act_if-requires t c = let l = room_in (scope_of c.args.level.now) c.args.action.now _ c.args.d
    (if_is _ _ _ _ c.in-If.is c.deref-in-If.ensures) c.requires in (search (rules, the_lemmas, get_or_read), l)

pub act-act_while-requires : goal.act-act_while-requires
act-act_while-requires t c = let l = room_in (scope_of c.args.level.now) c.args.action.now _ c.args.d
    (while_is _ _ _ _ c.in-While.is c.deref-in-While.ensures) c.requires in (search (rules, the_lemmas, get_or_read), l)

pub act-act_repeat-requires : goal.act-act_repeat-requires
act-act_repeat-requires t c = let l = room_in (scope_of c.args.level.now) c.args.action.now _ c.args.d
    (repeat_is _ _ _ _ c.in-Repeat.is c.deref-in-Repeat.ensures.value) c.requires
    in (search (rules, the_lemmas, get_or_read), l)

pub act-writes-requires : goal.act-writes-requires
act-writes-requires t c = let l = room_in (scope_of c.args.level.now) c.args.action.now _ c.args.d
    (write_is _ _ _ c.in-Write.is c.deref-in-Write.ensures.value) c.requires in l

pub act-writeln-requires : goal.act-writeln-requires
act-writeln-requires t c =
    let e = ap (λ (y : tree.Statement). statement_weight (scope_of c.args.level.now) y c.args.d)
    (writeln_is _ _ _ c.in-Writeln.is c.deref-in-Writeln.ensures.value) in
    let r = c.requires in
    omega (arith, e, r)

pub act-act_case-requires : goal.act-act_case-requires
act-act_case-requires t c = let l = room_in (scope_of c.args.level.now) c.args.action.now _ c.args.d
    (case_is _ _ _ _ _ c.in-Case.is c.deref-in-Case.ensures.value) c.requires
    in (search (rules, the_lemmas, get_or_read), l)

pub act-assign_structure-requires : goal.act-assign_structure-requires
act-assign_structure-requires t c = let l = room_in (scope_of c.args.level.now) c.args.action.now _ c.args.d
    (assign_structure_is _ _ _ c.in-AssignStructure.is) c.requires in l

pub act-call_procedure-requires : goal.act-call_procedure-requires
act-call_procedure-requires t c = let l = room_in (scope_of c.args.level.now) c.args.action.now _ c.args.d
    (procedure_is _ _ _ _ _ _ c.in-Call.is c.deref-in-Call.ensures.value) c.requires in l

pub act-call_formal_procedure-requires : goal.act-call_formal_procedure-requires
act-call_formal_procedure-requires t c = let l = room_in (scope_of c.args.level.now) c.args.action.now _ c.args.d
    (formal_procedure_is _ _ _ _ _ _ c.in-CallFormal.is c.deref-in-CallFormal.ensures.value) c.requires in l

pub act-act_with-requires : goal.act-act_with-requires
act-act_with-requires t c = let l = room_in (scope_of c.args.level.now) c.args.action.now _ c.args.d
    (with_is _ _ _ _ _ c.in-With.is c.deref-in-With-2.ensures.value c.deref-in-With.ensures) c.requires
    in (search (rules, the_lemmas, get_or_read), l)

pub act-assign_set-requires : goal.act-assign_set-requires
act-assign_set-requires t c = let l = room_in (scope_of c.args.level.now) c.args.action.now _ c.args.d
    (assign_set_is _ _ _ _ _ _ c.in-AssignSet.is) c.requires in l

pub act-create-requires : goal.act-create-requires
act-create-requires t c = let l = room_in (scope_of c.args.level.now) c.args.action.now _ c.args.d
    (new_is _ _ _ _ c.in-New.is) c.requires in l

pub act-pack-requires : goal.act-pack-requires
act-pack-requires t c = let l = room_in (scope_of c.args.level.now) c.args.action.now _ c.args.d
    (pack_is _ _ _ _ _ _ _ _ _ _ _ c.in-Pack.is c.deref-in-Pack.ensures c.deref-in-Pack-2.ensures
    c.deref-in-Pack-3.ensures c.deref-in-Pack-4.ensures) c.requires in l

pub act-unpack-requires : goal.act-unpack-requires
act-unpack-requires t c = let l = room_in (scope_of c.args.level.now) c.args.action.now _ c.args.d
    (unpack_is _ _ _ _ _ _ _ _ _ _ _ c.in-Unpack.is c.deref-in-Unpack.ensures c.deref-in-Unpack-2.ensures
    c.deref-in-Unpack-3.ensures c.deref-in-Unpack-4.ensures) c.requires in l

pub act-reads-requires : goal.act-reads-requires
act-reads-requires t c = let l = room_in (scope_of c.args.level.now) c.args.action.now _ c.args.d
    (read_is _ _ _ c.in-Read.is c.deref-in-Read.ensures.value) c.requires in l

pub act-readln-requires : goal.act-readln-requires
act-readln-requires t c =
    let e = ap (λ (y : tree.Statement). statement_weight (scope_of c.args.level.now) y c.args.d)
    (readln_is _ _ _ _ c.in-Readln.is c.deref-in-Readln.ensures.value) in
    let r = c.requires in
    omega (arith, e, r)

pub act-act_for-requires : goal.act-act_for-requires
act-act_for-requires t c =
    let l = room_in (scope_of c.args.level.now) c.args.action.now _ c.args.d
    (ap (λ (y : Control). tree.For y.variable y.low y.high (expr_of c.deref-in-For-2.result.now) y.from_line.number
    y.direction (expr_of c.deref-in-For-3.result.now) y.to_line.number (statement_of c.deref-in-For.result.now))
    c.control_of-control.ensures ∙ for_is _ _ _ _ _ _ _ _ _ _ _ _ _ _ c.in-For.is c.deref-in-For-2.ensures
    c.deref-in-For-3.ensures c.deref-in-For.ensures) c.requires
    in
    (search (rules, the_lemmas, get_or_read), l)

pub statements-statement-requires : goal.statements-statement-requires
statements-statement-requires t c =
    let l = statement_in (scope_of c.args.level.now) c.args.d c.args.statements.now c.loop-one.one-index
    c.one-item.result
    c.loop-one-test.true c.one-item.is in
    let r = c.requires in
    (search (rules, the_lemmas, get_or_read), omega (arith, l, r))

-- ---- refusals that are handed on

pub statement-returns : goal.statement-returns
statement-returns t c = c.limited.ensures c.args.out.now
    (statement_code (scope_of c.args.level.now) (statement_of c.args.action.now) c.args.d)
    (c.end_statement.ensures ∙ c.in_ok-act.ensures
    ∙ ap (λ o. o ++ statement_code (scope_of c.args.level.now) (statement_of c.args.action.now) c.args.d)
    c.begin_statement-outer.ensures)

pub statements-returns-in_err-statement : goal.statements-returns-in_err-statement
statements-returns-in_err-statement t c =
    handed_on c.from_residual.result c.args.out.now c.statement.new.out
    (statements_code (scope_of c.args.level.now) (statements_of c.args.statements.now) c.args.d) _
    c.from_residual.ensures.1
    (item_refused (statements_added (scope_of c.args.level.now) c.args.d)
    (λ s. statement_code (scope_of c.args.level.now) (statement_of s) c.args.d)
    (statements_further (scope_of c.args.level.now) c.args.d) _ c.args.out.now c.args.statements.now
    c.loop-one.one-index c.loop-one.out c.one-item.result _ c.loop-one-test.true c.loop-one.invariant c.one-item.is
    c.in_err-statement.ensures)

pub act_element-returns-in_err-statement-clause-code : goal.act_element-returns-in_err-statement-clause-code
act_element-returns-in_err-statement-clause-code t c =
    handed_on c.from_residual-in_err-statement.result
    (c.args.out.now ++ element_code (scope_of c.args.level.now) (out-CaseElement c.args.element.now).constants.items
    (statement_of (out-CaseElement c.args.element.now).body) c.args.d) c.statement.new.out
    (i.End ∷ []) _ c.from_residual-in_err-statement.ensures.1
    (element_refused _ (scope_of c.args.level.now) (out-CaseElement c.args.element.now).constants.items _
    (statement_of (out-CaseElement c.args.element.now).body) c.args.d c.args.out.now _ c.deref.ensures.value
    c.in_ok-last.ensures.code c.in_err-statement.ensures)

pub act_elements-returns-in_err-end-clause-code : goal.act_elements-returns-in_err-end-clause-code
act_elements-returns-in_err-end-clause-code t c =
    handed_on c.from_residual.result c.args.out.now c.act_element.new.out
    (open_elements (scope_of c.args.level.now) (elements_of c.args.elements.now) c.args.d) _ c.from_residual.ensures.1
    (among_refused _ (scope_of c.args.level.now) c.args.d c.args.out.now c.args.elements.now
    c.loop-element.element-index
    c.loop-element.out c.loop-element.ends.items c.element-item.result _ c.loop-element-test.true
    c.loop-element.invariant c.element-item.is c.in_err-end.ensures.code)

pub act_case-returns-in_err-ends : goal.act_case-returns-in_err-ends
act_case-returns-in_err-ends t c =
    handed_on c.from_residual-in_err-ends.result c.args.out.now c.act_elements.new.out
    (statement_code (scope_of c.args.level.now) (tree.Case (expr_of c.args.index.now)
    (elements_of c.args.elements.now) c.args.line.number) c.args.d) _ c.from_residual-in_err-ends.ensures.1
    (case_refused _ (scope_of c.args.level.now) (expr_of c.args.index.now)
    (elements_of c.args.elements.now) c.args.d c.args.line.number c.args.out.now _ c.in_ok-value.ensures
    c.in_err-ends.ensures.code)
