use Rattle.ps_tree.specs.View.{argument_of}
use Rattle.ps_check_names.specs.SectionViews.{section_of}
use Rattle.ps_check_expressions.specs.View.{context_at, regions_at}
use Rattle.ps_check_expressions.proofs.CallLemmas.{Passed}
use Rattle.ps_check_statements.specs.Procedures.{actual_parameter}
use Rattle.ps_check_statements.proofs.argument.actual_parameters.Given as goal

abbrev pub invariant-loop-i : goal.invariant-loop-i
invariant-loop-i l = Passed (actual_parameter (context_at l.site) (regions_at l.site)) (λ s. section_of s.now)
    (λ p. p) argument_of l.formals.items l.list l.fn.changes.items l.i l.arguments.items l.changes.items
