use Rattle.std.proofs.Common.{◌∙◌, sym, refl, arith, map}
use Rattle.std.proofs.lemmas.Bool.{true≢false}
use Rattle.ps_syntax.specs.declared.expression.AddedTerm.{out-AddedTerm}
use Rattle.ps_syntax.specs.declared.expression.Simple.{out-Simple}
use Rattle.ps_tree.specs.TypeView.{type_of}
use Rattle.ps_tree.specs.View.{expr_of, argument_of}
use Rattle.ps_check_judgement.proofs.Lists.{told_bind, handed_on, stepped_start, stepped_next, stepped_fault}
use Rattle.ps_check_judgement.proofs.Lists.{stepped_end}
use Rattle.ps_check_names.specs.SectionViews.{section_of}
use Rattle.ps_check_names.specs.Views.{meaning_of}
use Rattle.ps_check_names.proofs.ViewLemmas.{section_of_Routine}
use Rattle.ps_check_expressions.specs.Calls.{actual, actuals, called}
use Rattle.ps_check_expressions.specs.Expressions.{constant_value, operand, factor_operand, simple_operand}
use Rattle.ps_check_expressions.specs.Expressions.{term_operand}
use Rattle.ps_check_expressions.specs.View.{context_at, regions_at, value_of}
use Rattle.ps_check_expressions.proofs.CallLemmas.{fault_map, next_map, congruent_even, passed_next, passed_fault}
use Rattle.ps_check_expressions.proofs.CallLemmas.{end_map, passed_end, member_told, unlike_told, gathered_next}
use Rattle.ps_check_expressions.proofs.RoutineLemmas.{still_answers}
use Rattle.ps_check_expressions.proofs.RequiredLemmas.{only_one, of_input, of_value, factor_is_none}
use Rattle.ps_check_expressions.proofs.FirstLemmas.{comparison_is_none, signed_is_none, sum_is_none}
use Rattle.ps_check_expressions.proofs.Equations.{operand_simple, factor_variable, factor_call, factor_number}
use Rattle.ps_check_expressions.proofs.Equations.{factor_text, factor_nil, factor_set, factor_not, factor_first}
use Rattle.ps_check_expressions.proofs.Equations.{factor_group, operand_first, select_index, select_field}
use Rattle.ps_check_expressions.proofs.Equations.{select_content}
use Rattle.ps_check_expressions.proofs.Judgement.{compare_value, member_one, member_range, term_variable}
use Rattle.ps_check_expressions.proofs.Judgement.{term_no_variable, simple_variable, add_term_value}
use Rattle.ps_check_expressions.proofs.Judgement.{simple_value, term_value}
use Rattle.ps_check_expressions.proofs.Judgement.{multiply_factor_value, value_alone, value_selected, variable_variable}
use Rattle.ps_check_expressions.proofs.+expression.Goals as goal

-- ---- operators and factors

pub expression::expr_value-returns-else-is_one_factor : goal.expression::expr_value-returns-else-is_one_factor
expression::expr_value-returns-else-is_one_factor t c = rw (c.in-Simple.is, operand_simple) c.simple_value.ensures

pub expression::expr_value-returns-in-Compare : goal.expression::expr_value-returns-in-Compare
expression::expr_value-returns-in-Compare t c = c.compared_value.ensures

pub expression::compared_value-returns-in-Simple : goal.expression::compared_value-returns-in-Simple
expression::compared_value-returns-in-Simple t c = rw (c.in-Simple.is, operand_simple) c.simple_value.ensures

pub expression::add_terms-loop-term-init : goal.expression::add_terms-loop-term-init
expression::add_terms-loop-term-init t c = stepped_start _ _ _

pub expression::add_terms-returns : goal.expression::add_terms-returns
expression::add_terms-returns t c = stepped_end _ _ _ _ _ (omega arith) c.loop-term.invariant

pub expression::multiply_factors-loop-factor-init : goal.expression::multiply_factors-loop-factor-init
expression::multiply_factors-loop-factor-init t c = stepped_start _ _ _

pub expression::multiply_factors-returns : goal.expression::multiply_factors-returns
expression::multiply_factors-returns t c = stepped_end _ _ _ _ _ (omega arith) c.loop-factor.invariant

pub expression::factor_value-returns-in-Variable : goal.expression::factor_value-returns-in-Variable
expression::factor_value-returns-in-Variable t c = rw (c.in-Variable.is, factor_variable) c.variable_value.ensures

pub expression::factor_value-returns-in-Group : goal.expression::factor_value-returns-in-Group
expression::factor_value-returns-in-Group t c = rw (c.in-Group.is, factor_group, ← c.get.ensures) c.expr_value.ensures

pub expression::compared_value-returns-in-Compare : goal.expression::compared_value-returns-in-Compare
expression::compared_value-returns-in-Compare t c = rw
    (c.in-Compare.is, compare_value, ← c.get-right.ensures, ← c.first_token.ensures, ← c.first_token-in-Compare.ensures)
    (c.comparison.ensures (simple_operand (context_at c.args.site.now)
    (regions_at c.args.site.now) c.in-Compare.left).value
    (simple_operand (context_at c.args.site.now) (regions_at c.args.site.now) c.get-right.result.now).value _
    c.simple_value-left.new.changes.items _
    c.simple_value-left.ensures c.simple_value-right.ensures)

pub expression::add_terms-returns-in_err-value : goal.expression::add_terms-returns-in_err-value
expression::add_terms-returns-in_err-value t c = handed_on _ _ _ _ c.from_residual.ensures.1
    (stepped_fault _ _ _ _ _ c.term-item.result _ c.loop-term-test.true c.term-item.is c.loop-term.invariant
    (rw (add_term_value) (c.in_err-value.ensures (term_operand (context_at c.args.site.now)
    (regions_at c.args.site.now) (out-AddedTerm c.term-item.result).term).value _ _
    c.term_value-right.ensures)))

pub expression::add_terms-loop-term-preserved : goal.expression::add_terms-loop-term-preserved
expression::add_terms-loop-term-preserved t c = stepped_next _ _ _ _ _ c.term-item.result _ c.loop-term-test.true
    c.term-item.is c.loop-term.invariant
    (rw (add_term_value) (c.in_ok-value.ensures (term_operand (context_at c.args.site.now) (regions_at c.args.site.now)
    (out-AddedTerm c.term-item.result).term).value _ _
    c.term_value-right.ensures))

pub expression::multiply_factors-returns-in_err-value : goal.expression::multiply_factors-returns-in_err-value
expression::multiply_factors-returns-in_err-value t c = handed_on _ _ _ _ c.from_residual.ensures.1
    (stepped_fault _ _ _ _ _ c.factor-item.result _ c.loop-factor-test.true c.factor-item.is c.loop-factor.invariant
    (rw (multiply_factor_value) (c.in_err-value.ensures (factor_operand (context_at c.args.site.now)
    (regions_at c.args.site.now) c.factor-item.result.factor).value _ _
    c.factor_value-right.ensures)))

pub expression::multiply_factors-loop-factor-preserved : goal.expression::multiply_factors-loop-factor-preserved
expression::multiply_factors-loop-factor-preserved t c = stepped_next _ _ _ _ _ c.factor-item.result _
    c.loop-factor-test.true c.factor-item.is c.loop-factor.invariant
    (rw (multiply_factor_value) (c.in_ok-value.ensures (factor_operand (context_at c.args.site.now)
    (regions_at c.args.site.now) c.factor-item.result.factor).value _ _
    c.factor_value-right.ensures))

pub expression::factor_value-returns-in-Call : goal.expression::factor_value-returns-in-Call
expression::factor_value-returns-in-Call t c = rw
    (c.in-Call.is, factor_call, ← c.as_slice.ensures) c.call_value.ensures

pub expression::factor_value-returns-in-Text : goal.expression::factor_value-returns-in-Text
expression::factor_value-returns-in-Text t c = rw
    (c.in-Text.is, factor_text) (still_answers _ _ _ _ c.text_value.ensures)

pub expression::factor_value-returns-in-Number : goal.expression::factor_value-returns-in-Number
unfolding constant_value
expression::factor_value-returns-in-Number t c = rw (c.in-Number.is, factor_number, c.number_value.ensures) refl

pub expression::factor_value-returns-in-Nil : goal.expression::factor_value-returns-in-Nil
unfolding value_of type_of expr_of
expression::factor_value-returns-in-Nil t c = rw (c.in-Nil.is, factor_nil) refl

pub expression::factor_value-returns-in-Set : goal.expression::factor_value-returns-in-Set
expression::factor_value-returns-in-Set t c = rw
    (c.in-Set.is, factor_set, ← c.as_slice-in-Set.ensures) c.set_value.ensures

pub expression::factor_value-returns-in-Not : goal.expression::factor_value-returns-in-Not
expression::factor_value-returns-in-Not t c = rw
    (c.in-Not.is, factor_not, ← c.get-in-Not.ensures) c.negated_value.ensures

pub expression::negated_value-returns-in-Ok : goal.expression::negated_value-returns-in-Ok
expression::negated_value-returns-in-Ok t c = rw (
  c.in-Ok.ensures,
  factor_first (context_at c.args.site.now) (regions_at c.args.site.now) c.args.factor.now,
  ← c.first_token-at.ensures,
)
    (still_answers _ _ _ _ c.negated.ensures)

pub expression::negated_value-returns-in-Err : goal.expression::negated_value-returns-in-Err
expression::negated_value-returns-in-Err t c = told_bind _ _ _ c.in-Err.ensures

pub expression::term_value-returns-in-Ok : goal.expression::term_value-returns-in-Ok
expression::term_value-returns-in-Ok t c = rw (
  term_value (context_at c.args.site.now) (regions_at c.args.site.now) c.args.term.now,
  c.in-Ok.ensures,
  ← c.as_slice.ensures,
  ← c.first_token-at.ensures,
)
    c.multiply_factors.ensures

pub expression::term_value-returns-in-Err : goal.expression::term_value-returns-in-Err
expression::term_value-returns-in-Err t c = rw
    (term_value (context_at c.args.site.now) (regions_at c.args.site.now) c.args.term.now)
    (told_bind _ _ _ c.in-Err.ensures)

pub expression::simple_value-returns-in-Ok : goal.expression::simple_value-returns-in-Ok
expression::simple_value-returns-in-Ok t c = rw (
  simple_value (context_at c.args.site.now) (regions_at c.args.site.now) c.args.simple.now,
  ← c.first_token-at.ensures,
  ← c.first_token.ensures,
  c.in-Ok.ensures (term_operand (context_at c.args.site.now) (regions_at c.args.site.now)
      (out-Simple c.args.simple.now).first).value _ _ c.term_value-term.ensures,
  ← c.as_slice.ensures,
) c.add_terms.ensures

pub expression::simple_value-returns-in-Err : goal.expression::simple_value-returns-in-Err
expression::simple_value-returns-in-Err t c = rw
    (simple_value (context_at c.args.site.now) (regions_at c.args.site.now) c.args.simple.now, ← c.first_token.ensures)
    (told_bind _ _ _ (c.in-Err.ensures (term_operand (context_at c.args.site.now) (regions_at c.args.site.now)
    (out-Simple c.args.simple.now).first).value _ _
    c.term_value-term.ensures))

-- ---- indices and members

pub variables::select_all-loop-selector-init : goal.variables::select_all-loop-selector-init
variables::select_all-loop-selector-init t c = stepped_start _ _ _

pub variables::select_all-returns-in_err-place : goal.variables::select_all-returns-in_err-place
variables::select_all-returns-in_err-place t c = handed_on _ _ _ _ c.from_residual.ensures.1
    (stepped_fault _ _ _ _ _ c.selector-item.result _ c.loop-selector-test.true c.selector-item.is
    c.loop-selector.invariant c.in_err-place.ensures)

pub variables::select_all-loop-selector-preserved : goal.variables::select_all-loop-selector-preserved
variables::select_all-loop-selector-preserved t c = stepped_next _ _ _ _ _ c.selector-item.result _
    c.loop-selector-test.true c.selector-item.is c.loop-selector.invariant c.in_ok-place.ensures

pub variables::select_all-returns : goal.variables::select_all-returns
variables::select_all-returns t c = stepped_end _ _ _ _ _ (omega arith) c.loop-selector.invariant

pub variables::index_all-loop-index-init : goal.variables::index_all-loop-index-init
variables::index_all-loop-index-init t c = stepped_start _ _ _

pub variables::index_all-returns : goal.variables::index_all-returns
variables::index_all-returns t c = end_map _ _ _ _ _ _ (omega arith) c.loop-index.invariant

pub variables::select-returns-in-Index : goal.variables::select-returns-in-Index
variables::select-returns-in-Index t c = rw (c.in-Index.is, select_index, ← c.as_slice.ensures) c.index_all.ensures

pub variables::index_all-returns-in_err-place : goal.variables::index_all-returns-in_err-place
variables::index_all-returns-in_err-place t c = handed_on _ _ _ _ c.from_residual.ensures.1
    (fault_map _ _ _ _ _ _ c.index-item.result _ c.loop-index-test.true c.index-item.is c.loop-index.invariant
    (rw (operand_first) (c.in_err-place.ensures (operand (context_at c.args.site.now)
    (regions_at c.args.site.now) c.index-item.result).value _ _
    c.expr_value-value.ensures)))

pub variables::index_all-loop-index-preserved : goal.variables::index_all-loop-index-preserved
variables::index_all-loop-index-preserved t c = next_map _ _ _ _ _ _ c.index-item.result _ c.loop-index-test.true
    c.index-item.is c.loop-index.invariant
    (rw (operand_first) (c.in_ok-place.ensures (operand (context_at c.args.site.now)
    (regions_at c.args.site.now) c.index-item.result).value _ _
    c.expr_value-value.ensures))

pub variables::select-returns-in-Field : goal.variables::select-returns-in-Field
variables::select-returns-in-Field t c = rw
    (c.in-Field.is, select_field) (still_answers _ _ _ _ c.field.ensures)

pub variables::select-returns-in-Content : goal.variables::select-returns-in-Content
variables::select-returns-in-Content t c = rw
    (c.in-Content.is, select_content, ← c.line.ensures) (still_answers _ _ _ _ c.target.ensures)

pub variables::variable_value-returns-then-is_empty : goal.variables::variable_value-returns-then-is_empty
variables::variable_value-returns-then-is_empty t c = rw
    (value_alone (context_at c.args.site.now) (regions_at c.args.site.now) c.args.variable.now
    (c.is_empty.ensures.0 c.if-is_empty.true))
    (c.named_value.ensures _)

pub variables::variable_value-returns-in-Ok : goal.variables::variable_value-returns-in-Ok
variables::variable_value-returns-in-Ok t c = rw (
  value_selected (context_at c.args.site.now) (regions_at c.args.site.now) c.args.variable.now
      (λ none. true≢false (sym (c.is_empty.ensures.1 none) ∙ c.if-is_empty.false)),
  c.in-Ok.ensures,
)
    (still_answers _ _ _ _ c.loaded.ensures)

pub variables::variable_value-returns-in-Err : goal.variables::variable_value-returns-in-Err
variables::variable_value-returns-in-Err t c = rw
    (value_selected (context_at c.args.site.now) (regions_at c.args.site.now) c.args.variable.now
    (λ none. true≢false (sym (c.is_empty.ensures.1 none) ∙ c.if-is_empty.false)))
    (told_bind _ _ _ c.in-Err.ensures)

pub variables::variable_place-returns-in_err-entire : goal.variables::variable_place-returns-in_err-entire
variables::variable_place-returns-in_err-entire t c = handed_on _ _ _ _ c.from_residual.ensures.1
    (rw (variable_variable) (told_bind _ _ _ (c.in_err-entire.ensures _)))

pub variables::variable_place-returns : goal.variables::variable_place-returns
variables::variable_place-returns t c = rw
    (variable_variable, c.in_ok-entire.ensures _, ← c.as_slice.ensures) c.select_all.ensures

pub members::member_value-returns-in-Ok : goal.members::member_value-returns-in-Ok
members::member_value-returns-in-Ok t c = rw
    (c.in-One.is, member_one, ← c.get-only.ensures, c.in-Ok.ensures, ← c.first_token-at.ensures)
    (still_answers _ _ _ _ c.single.ensures)

pub members::member_value-returns-in-Err : goal.members::member_value-returns-in-Err
members::member_value-returns-in-Err t c = rw
    (c.in-One.is, member_one, ← c.get-only.ensures) (told_bind _ _ _ c.in-Err.ensures)

pub members::member_value-returns-in-Range : goal.members::member_value-returns-in-Range
members::member_value-returns-in-Range t c = rw (
  c.in-Range.is,
  member_range,
  ← c.get-from.ensures,
  ← c.get-to.ensures,
  ← c.first_token.ensures,
  ← c.first_token-in-Range.ensures,
)
    (c.several.ensures (operand (context_at c.args.site.now) (regions_at c.args.site.now) c.get-from.result.now).value
    (operand (context_at c.args.site.now) (regions_at c.args.site.now) c.get-to.result.now).value _
    c.expr_value-from.new.changes.items _ c.expr_value-from.ensures c.expr_value-to.ensures)

pub members::set_value-returns-in_err-value : goal.members::set_value-returns-in_err-value
members::set_value-returns-in_err-value t c =
    handed_on _ _ _ _ c.from_residual.ensures.1
    (member_told (context_at c.args.site.now) (regions_at c.args.site.now) c.args.members.now _
    c.loop-member.member-index
    c.loop-member.list.items c.loop-member.base _ c.member-item.result _ c.loop-member-test.true c.member-item.is
    c.loop-member.invariant
    c.in_err-value.ensures)

pub members::set_value-returns-in_err-joined : goal.members::set_value-returns-in_err-joined
members::set_value-returns-in_err-joined t c =
    handed_on _ _ _ _ c.from_residual-in_err-joined.ensures.1
    (unlike_told (context_at c.args.site.now) (regions_at c.args.site.now) c.args.members.now _
    c.loop-member.member-index
    c.loop-member.list.items c.loop-member.base _ _ c.member-item.result _ _ _ c.loop-member-test.true
    c.member-item.is c.loop-member.invariant
    c.in_ok-value.ensures (rw (← c.first_token.ensures) (c.in_err-joined.ensures _ _)))

pub members::set_value-loop-member-preserved : goal.members::set_value-loop-member-preserved
members::set_value-loop-member-preserved t c =
    gathered_next (context_at c.args.site.now) (regions_at c.args.site.now) c.args.members.now _
    c.loop-member.member-index
    c.loop-member.list.items c.push.new.self.items c.loop-member.base _ _ c.member-item.result c.in_ok-value.value
    c.in_ok-value.ordinal c.in_ok-joined.field-0 c.loop-member-test.true c.member-item.is c.loop-member.invariant
    c.in_ok-value.ensures (rw (← c.first_token.ensures) (c.in_ok-joined.ensures _ _)) c.in_ok-push.ensures.items

-- ---- what is a variable alone

pub calls::referent-returns-in-Compare : goal.calls::referent-returns-in-Compare
calls::referent-returns-in-Compare t c = rw (
  c.broken.ensures,
  comparison_is_none (context_at c.args.site.now)
      (regions_at c.args.site.now) c.args.expression.now _ _ _ _ c.in-Compare.is,
  ← c.first_token.ensures,
) refl

pub calls::referent-returns-in-Some : goal.calls::referent-returns-in-Some
calls::referent-returns-in-Some t c = rw (
  c.broken-in-Some.ensures,
  signed_is_none (context_at c.args.site.now)
      (regions_at c.args.site.now) c.args.expression.now _ _ c.in-Simple.is c.in-Some.is,
  ← c.first_token-in-Some.ensures,
) refl

pub calls::referent-returns-then-is_empty : goal.calls::referent-returns-then-is_empty
calls::referent-returns-then-is_empty t c =
    rw (
      c.in-Simple.is,
      operand_simple,
      simple_variable (context_at c.args.site.now)
          (regions_at c.args.site.now) c.in-Simple.simple c.in-None.is (c.is_empty.ensures.0 c.if-is_empty.true),
    )
    c.term_referent.ensures

pub calls::referent-returns-else-is_empty : goal.calls::referent-returns-else-is_empty
calls::referent-returns-else-is_empty t c =
    rw (
      c.broken-else-is_empty.ensures,
      sum_is_none (context_at c.args.site.now)
          (regions_at c.args.site.now) c.args.expression.now _ c.in-Simple.is
          (λ none. true≢false (sym (c.is_empty.ensures.1 none) ∙ c.if-is_empty.false)),
      ←
          c.first_token-else-is_empty.ensures,
    ) refl

pub calls::term_referent-returns-in-Variable : goal.calls::term_referent-returns-in-Variable
calls::term_referent-returns-in-Variable t c =
    rw (
      term_variable (context_at c.args.site.now) (regions_at c.args.site.now) c.args.term.now
          (c.is_empty.ensures.0 c.if-not-is_empty.false),
      c.in-Variable.is,
      factor_variable,
    ) c.variable_place.ensures

pub calls::term_referent-returns-then-not-is_empty : goal.calls::term_referent-returns-then-not-is_empty
calls::term_referent-returns-then-not-is_empty t c =
    rw (
      c.broken.ensures,
      term_no_variable (context_at c.args.site.now) (regions_at c.args.site.now) c.args.term.now
          (λ none. true≢false (sym (c.is_empty.ensures.1 none) ∙ c.if-not-is_empty.true)),
      ← c.first_token.ensures,
    ) refl

pub calls::term_referent-returns-in-Call : goal.calls::term_referent-returns-in-Call
calls::term_referent-returns-in-Call t c =
    rw (
      c.broken-in-Call.ensures,
      factor_is_none (context_at c.args.site.now) (regions_at c.args.site.now) c.args.term.now
          (c.is_empty.ensures.0 c.if-not-is_empty.false) c.in-Call.is,
      ← c.first_token-in-Call.ensures,
    ) refl

-- ---- actual parameters

pub calls::argument-returns-in-Ok : goal.calls::argument-returns-in-Ok
unfolding actual section_of
calls::argument-returns-in-Ok t c = rw
    (c.in-Value.is, c.in-Ok.ensures, operand_first, ← c.first_token-at.ensures, ← c.line.ensures)
    (still_answers _ _ _ _ c.by_value.ensures)

pub calls::argument-returns-in-Err : goal.calls::argument-returns-in-Err
unfolding actual section_of
calls::argument-returns-in-Err t c = rw (c.in-Value.is) (told_bind _ _ _ c.in-Err.ensures)

pub calls::argument-returns-in-Ok-referent : goal.calls::argument-returns-in-Ok-referent
unfolding actual section_of
calls::argument-returns-in-Ok-referent t c = rw
    (c.in-Variable.is, c.in-Ok-referent.ensures, operand_first, ← c.first_token-at.ensures) c.passed.ensures

pub calls::argument-returns-in-Err-referent : goal.calls::argument-returns-in-Err-referent
unfolding actual section_of
calls::argument-returns-in-Err-referent t c = rw (c.in-Variable.is) (told_bind _ _ _ c.in-Err-referent.ensures)

pub calls::argument-returns-in-Routine : goal.calls::argument-returns-in-Routine
unfolding actual
calls::argument-returns-in-Routine t c = rw
    (c.in-Routine.is, section_of_Routine, operand_first, ← c.deref.ensures) (still_answers _ _ _ _ c.routine.ensures)

pub calls::argument_all-returns-in_err-push_answer : goal.calls::argument_all-returns-in_err-push_answer
calls::argument_all-returns-in_err-push_answer t c =
    handed_on _ _ _ _ c.from_residual-in_err-push_answer.ensures.1
    (rw (congruent_even _ (actual (context_at c.args.site.now) (regions_at c.args.site.now)) (λ s. section_of s.now)
    (operand (context_at c.args.site.now) (regions_at c.args.site.now)) _ c.in_ok-formals.formals.items
    c.args.operands.now
    _ c.in_ok-formals.ensures (omega arith))
    (passed_fault (actual (context_at c.args.site.now) (regions_at c.args.site.now)) (λ s. section_of s.now)
    (operand (context_at c.args.site.now) (regions_at c.args.site.now)) argument_of c.in_ok-formals.formals.items
    c.args.operands.now _ c.loop-i.i c.loop-i.list.items _ _ c.index.result.now c.index-operands-i.result
    c.argument.result _ (omega arith) (omega arith) c.index.ensures c.index-operands-i.is c.loop-i.invariant
    c.argument.ensures c.in_err-push_answer.ensures.err))

pub calls::argument_all-loop-i-preserved : goal.calls::argument_all-loop-i-preserved
calls::argument_all-loop-i-preserved t c =
    passed_next (actual (context_at c.args.site.now) (regions_at c.args.site.now)) (λ s. section_of s.now)
    (operand (context_at c.args.site.now) (regions_at c.args.site.now)) argument_of c.in_ok-formals.formals.items
    c.args.operands.now _ c.loop-i.i c.loop-i.list.items _ _ _ c.index.result.now c.index-operands-i.result
    c.argument.result (omega arith) (omega arith) c.index.ensures c.index-operands-i.is c.loop-i.invariant
    c.argument.ensures c.in_ok-push_answer.ensures.ok

pub calls::argument_all-returns : goal.calls::argument_all-returns
calls::argument_all-returns t c =
    rw (congruent_even _ (actual (context_at c.args.site.now) (regions_at c.args.site.now)) (λ s. section_of s.now)
    (operand (context_at c.args.site.now) (regions_at c.args.site.now)) _ c.in_ok-formals.formals.items
    c.args.operands.now
    _ c.in_ok-formals.ensures (omega arith))
    (passed_end (actual (context_at c.args.site.now) (regions_at c.args.site.now)) (λ s. section_of s.now)
    (operand (context_at c.args.site.now) (regions_at c.args.site.now)) argument_of c.in_ok-formals.formals.items
    c.args.operands.now _ c.loop-i.i c.loop-i.list.items _ (omega arith) (omega arith) c.loop-i.invariant)

-- ---- calls

pub calls::call_value-returns-in-Required : goal.calls::call_value-returns-in-Required
unfolding called meaning_of
calls::call_value-returns-in-Required t c = rw
    (c.in_ok-found.ensures, c.in-Name.is, c.in-Required.is) c.required_call.ensures

pub calls::call_value-returns-in_err-found : goal.calls::call_value-returns-in_err-found
calls::call_value-returns-in_err-found t c = handed_on _ _ _ _ c.from_residual.ensures.1
    (told_bind _ _ _ (told_bind _ _ _ c.in_err-found.ensures))

pub calls::call_value-returns-in-Routine : goal.calls::call_value-returns-in-Routine
unfolding called meaning_of
calls::call_value-returns-in-Routine t c = rw
    (c.in_ok-found.ensures, c.in-Name.is, c.in-Routine.is, ← c.deref.ensures)
    (c.called_routine.ensures (actuals (context_at c.args.site.now)
    (regions_at c.args.site.now) c.args.name.from c.deref.result.now
    (map (operand (context_at c.args.site.now) (regions_at c.args.site.now)) c.args.operands.now)) _ _
    c.argument_all-arguments.ensures)

pub calls::call_value-returns-in-RoutineParameter : goal.calls::call_value-returns-in-RoutineParameter
unfolding called meaning_of
calls::call_value-returns-in-RoutineParameter t c = rw
    (c.in_ok-found.ensures, c.in-Name.is, c.in-RoutineParameter.is, ← c.deref-in-RoutineParameter.ensures)
    (c.called_parameter.ensures (actuals (context_at c.args.site.now)
    (regions_at c.args.site.now) c.args.name.from c.deref-in-RoutineParameter.result.now
    (map (operand (context_at c.args.site.now) (regions_at c.args.site.now)) c.args.operands.now)) _ _
    c.argument_all-arguments-in-RoutineParameter.ensures)

pub calls::required_call-returns-in-Ok : goal.calls::required_call-returns-in-Ok
calls::required_call-returns-in-Ok t c = rw (
  only_one c.args.operands.now c.only-item.result (omega arith) (omega arith) c.only-item.is,
  of_value (context_at c.args.site.now) (regions_at c.args.site.now) c.args.name.from c.args.required
      (operand (context_at c.args.site.now) (regions_at c.args.site.now) c.only-item.result) _
      (sym c.is_procedure.ensures ∙ c.if-is_procedure.false)
      (sym c.in_ok-is_the_input-in-len1.ensures ∙ c.if-branch.false),
  c.in-Ok.ensures,
  operand_first,
  ← c.first_token-first.ensures,
  ← c.line-line.ensures,
)
    (still_answers _ _ _ _ c.required_value.ensures)

pub calls::required_call-returns-in-Err : goal.calls::required_call-returns-in-Err
calls::required_call-returns-in-Err t c = rw (
  only_one c.args.operands.now c.only-item.result (omega arith) (omega arith) c.only-item.is,
  of_value (context_at c.args.site.now) (regions_at c.args.site.now) c.args.name.from c.args.required
      (operand (context_at c.args.site.now) (regions_at c.args.site.now) c.only-item.result) _
      (sym c.is_procedure.ensures ∙ c.if-is_procedure.false)
      (sym c.in_ok-is_the_input-in-len1.ensures ∙ c.if-branch.false),
)
    (told_bind _ _ _ c.in-Err.ensures)

pub calls::required_call-returns-then-branch : goal.calls::required_call-returns-then-branch
calls::required_call-returns-then-branch t c =
    rw (
      only_one c.args.operands.now c.only-item.result (omega arith) (omega arith) c.only-item.is,
      of_input
          (context_at c.args.site.now) (regions_at c.args.site.now) c.args.name.from c.args.required
          (operand (context_at c.args.site.now) (regions_at c.args.site.now) c.only-item.result) _
          (sym c.is_procedure.ensures ∙ c.if-is_procedure.false)
          (sym c.in_ok-is_the_input-in-len1.ensures ∙ c.if-branch.true),
      operand_first,
      ← c.first_token-first.ensures,
      ←
          c.line-line.ensures,
    ) (still_answers _ _ _ _ c.look_at_name.ensures)
