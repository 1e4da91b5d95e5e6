use Rattle.std.proofs.Common.{refl, sym, ◌∙◌, arith}
use Rattle.ps_tree.specs.View.{argument_of, type_of}
use Rattle.ps_check_judgement.proofs.Lists.{handed_on}
use Rattle.ps_check_names.specs.SectionViews.{section_of}
use Rattle.ps_check_expressions.specs.View.{context_at, regions_at}
use Rattle.ps_check_expressions.specs.Calls.{parameters}
use Rattle.ps_check_expressions.proofs.CallLemmas.{passed_start, passed_next, passed_fault}
use Rattle.ps_check_statements.specs.Procedures.{actual_parameter}
use Rattle.ps_check_statements.proofs.Loops.{no_result, some_result, actuals_uneven, actuals_told, actuals_end}
use Rattle.ps_check_statements.proofs.argument.actual_parameters.Goals as goal

pub returns-then-is_some : goal.returns-then-is_some
returns-then-is_some c = rw (
  c.broken.ensures,
  some_result type_of c.args.outcome.now
      (sym c.is_some.ensures ∙ c.if-is_some.true),
) refl

pub returns-then-len-list : goal.returns-then-len-list
returns-then-len-list c =
    rw (
      c.broken-then-len-list.ensures,
      no_result type_of c.args.outcome.now
          (sym c.is_some.ensures ∙ c.if-is_some.false),
    )
    (actuals_uneven c.args.at (actual_parameter (context_at c.args.site.now) (regions_at c.args.site.now))
    (λ s. section_of s.now) argument_of (parameters c.args.sections.now) c.in_ok-formals.formals.items
    c.args.list.now c.args.changes.now.items c.in_ok-formals.ensures (λ e. omega (arith, e)))

pub loop-i-init : goal.loop-i-init
loop-i-init c = rw c.new-arguments.ensures.items
    (passed_start (actual_parameter (context_at c.args.site.now) (regions_at c.args.site.now)) (λ s. section_of s.now)
    (λ p. p) argument_of c.in_ok-formals.formals.items c.args.list.now c.args.changes.now.items)

pub loop-i-preserved : goal.loop-i-preserved
loop-i-preserved c =
    passed_next (actual_parameter (context_at c.args.site.now) (regions_at c.args.site.now)) (λ s. section_of s.now)
    (λ p. p) argument_of c.in_ok-formals.formals.items c.args.list.now _ c.loop-i.i c.loop-i.arguments.items _ _ _
    c.index.result.now c.index-list-i.result c.actual_parameter.result (omega arith)
    (omega arith) c.index.ensures c.index-list-i.is c.loop-i.invariant c.actual_parameter.ensures
    c.in_ok-push_answer.ensures.ok

pub returns-in_err-push_answer : goal.returns-in_err-push_answer
returns-in_err-push_answer c =
    handed_on _ _ _ _ c.from_residual-in_err-push_answer.ensures.1
    (rw (no_result type_of c.args.outcome.now (sym c.is_some.ensures ∙ c.if-is_some.false))
    (actuals_told c.args.at (actual_parameter (context_at c.args.site.now) (regions_at c.args.site.now))
    (λ s. section_of s.now) argument_of (parameters c.args.sections.now) c.in_ok-formals.formals.items
    c.args.list.now c.args.changes.now.items _ c.in_ok-formals.ensures (omega arith)
    (passed_fault (actual_parameter (context_at c.args.site.now) (regions_at c.args.site.now)) (λ s. section_of s.now)
    (λ p. p) argument_of c.in_ok-formals.formals.items c.args.list.now _ c.loop-i.i c.loop-i.arguments.items _ _
    c.index.result.now c.index-list-i.result c.actual_parameter.result _ (omega arith)
    (omega arith) c.index.ensures c.index-list-i.is c.loop-i.invariant c.actual_parameter.ensures
    c.in_err-push_answer.ensures.err)))

pub returns : goal.returns
returns c =
    rw (no_result type_of c.args.outcome.now (sym c.is_some.ensures ∙ c.if-is_some.false))
    (actuals_end c.args.at (actual_parameter (context_at c.args.site.now) (regions_at c.args.site.now))
    (λ s. section_of s.now) argument_of (parameters c.args.sections.now) c.in_ok-formals.formals.items
    c.args.list.now c.args.changes.now.items c.loop-i.i c.loop-i.arguments.items c.loop-i.changes.items
    c.in_ok-formals.ensures (omega arith) (omega arith) c.loop-i.invariant)
