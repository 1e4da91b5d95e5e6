use Rattle.std.proofs.Common.{map, ◌+◌, ◌*◌}
use Rattle.ps_tree.specs.View.{formal_of}
use Rattle.ps_check_names.specs.SectionCode.{depth, section_depth}
use Rattle.ps_check_names.specs.SectionViews.{section_of, sections_of}
use Rattle.ps_check.proofs.FormalLemmas.{Listed}
use Rattle.ps_check.proofs.formals.+formals.Given as goal

abbrev pub invariant-formals_of-loop-section : goal.invariant-formals_of-loop-section
invariant-formals_of-loop-section l = Listed l.sections l.section-index (map formal_of l.formals.items)

abbrev pub decreases-add_formals : goal.decreases-add_formals
decreases-add_formals l = 2 * section_depth (section_of l.section.now)

abbrev pub decreases-formals_of : goal.decreases-formals_of
decreases-formals_of l = 2 * depth (sections_of l.sections.now) + 1
