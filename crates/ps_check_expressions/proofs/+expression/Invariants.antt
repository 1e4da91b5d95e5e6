use Rattle.std.proofs.Common.{map}
use Rattle.ps_tree.specs.View.{argument_of}
use Rattle.ps_check_judgement.proofs.Lists.{Stepped}
use Rattle.ps_check_names.specs.SectionViews.{section_of}
use Rattle.ps_check_expressions.specs.Calls.{actual}
use Rattle.ps_check_expressions.specs.Expressions.{indexed, operand, select, add_term, multiply_factor}
use Rattle.ps_check_expressions.specs.View.{context_at, regions_at, value_of, variable_of}
use Rattle.ps_check_expressions.proofs.CallLemmas.{Gathering, Passed}
use Rattle.ps_check_expressions.proofs.+expression.Given as goal

abbrev pub invariant-expression::add_terms-loop-term : goal.invariant-expression::add_terms-loop-term
invariant-expression::add_terms-loop-term l = Stepped (λ t x. add_term (context_at l.site)
    (regions_at l.site) x l.fn.at t.0 t.1)
    (value_of l.fn.first, l.fn.changes.items) l.terms l.term-index (value_of l.value, l.changes.items)

abbrev pub invariant-expression::multiply_factors-loop-factor : goal.invariant-expression::multiply_factors-loop-factor
invariant-expression::multiply_factors-loop-factor l = Stepped
    (λ t x. multiply_factor (context_at l.site) (regions_at l.site) x l.fn.at t.0 t.1)
    (value_of l.fn.first, l.fn.changes.items) l.factors l.factor-index (value_of l.value, l.changes.items)

abbrev pub invariant-members::set_value-loop-member : goal.invariant-members::set_value-loop-member
invariant-members::set_value-loop-member l = Gathering (context_at l.site)
    (regions_at l.site) l.members l.fn.changes.items l.member-index l.list.items l.base l.changes.items

abbrev pub invariant-variables::select_all-loop-selector : goal.invariant-variables::select_all-loop-selector
invariant-variables::select_all-loop-selector l = Stepped (λ t x. select (context_at l.site)
    (regions_at l.site) x l.fn.at t.0 t.1)
    (variable_of l.fn.variable, l.fn.changes.items) l.selectors l.selector-index (variable_of l.place, l.changes.items)

abbrev pub invariant-variables::index_all-loop-index : goal.invariant-variables::index_all-loop-index
invariant-variables::index_all-loop-index l = Stepped (λ t x. indexed (context_at l.site)
    (regions_at l.site) l.fn.at t.0 x t.1)
    (variable_of l.fn.variable, l.fn.changes.items)
    (map (operand (context_at l.site) (regions_at l.site)) l.indices) l.index-index
    (variable_of l.place, l.changes.items)

abbrev pub invariant-calls::argument_all-loop-i : goal.invariant-calls::argument_all-loop-i
invariant-calls::argument_all-loop-i l = Passed (actual (context_at l.site) (regions_at l.site)) (λ s. section_of s.now)
    (operand (context_at l.site) (regions_at l.site)) argument_of l.formals.items l.operands l.fn.changes.items l.i
    l.list.items l.changes.items
