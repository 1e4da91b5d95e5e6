use Rattle.ps_syntax.specs.Height.{height_of_section}
use Rattle.ps_syntax.proofs.Greatest.{Reached}
use Rattle.ps_syntax.proofs.heights.+heading_height.Given as goal

abbrev pub invariant-sections_height-loop-section : goal.invariant-sections_height-loop-section
invariant-sections_height-loop-section l = Reached 4294967295 height_of_section l.sections l.section-index l.most
