use Rattle.std.proofs.Common.{◌+◌, ◌*◌}
use Rattle.ps_check_names.specs.SectionCode.{depth, section_depth}
use Rattle.ps_check_names.specs.SectionViews.{section_of, sections_of}
use Rattle.ps_check_expressions.proofs.ParameterLemmas.{Alike}
use Rattle.ps_check_expressions.proofs.parameter.+congruity.Given as goal

abbrev pub decreases-congruous : goal.decreases-congruous
decreases-congruous l = 3 * depth l.a.now + 2

abbrev pub decreases-are_all_alike : goal.decreases-are_all_alike
decreases-are_all_alike l = 3 * depth (sections_of l.a.now) + 1

abbrev pub decreases-are_alike : goal.decreases-are_alike
decreases-are_alike l = 3 * section_depth (section_of l.a.now)

abbrev pub invariant-are_all_alike-loop-i : goal.invariant-are_all_alike-loop-i
invariant-are_all_alike-loop-i l = Alike l.a l.b l.i
