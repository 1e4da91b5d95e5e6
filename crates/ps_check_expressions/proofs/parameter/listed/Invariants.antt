use Rattle.std.proofs.Common.{map}
use Rattle.ps_check_names.specs.SectionViews.{section_of}
use Rattle.ps_check_expressions.proofs.ParameterLemmas.{Listed}
use Rattle.ps_check_expressions.proofs.parameter.listed.Given as goal

abbrev pub invariant-loop-section : goal.invariant-loop-section
invariant-loop-section l = Listed l.sections l.section-index (map (λ s. section_of s.now) l.list.items)
