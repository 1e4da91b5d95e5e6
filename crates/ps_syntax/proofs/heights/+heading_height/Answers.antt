use Rattle.ps_syntax.specs.Height.{height_of_section}
use Rattle.ps_syntax.proofs.Greatest.{reached_end}
use Rattle.ps_syntax.proofs.HeightLemmas.{limit, reached_on}
use Rattle.ps_syntax.proofs.heights.+heading_height.Goals as goal

pub sections_height-loop-section-preserved : goal.sections_height-loop-section-preserved
sections_height-loop-section-preserved t c = reached_on height_of_section _ _ _ _ _ _ c.loop-section-test.true
    c.section-item.is c.loop-section.invariant c.section_height.ensures c.max-most.ensures

pub sections_height-returns : goal.sections_height-returns
sections_height-returns t c = reached_end limit height_of_section _ _ _ c.loop-section-test.false
    c.loop-section.invariant
