use Rattle.ps_syntax.specs.Height.{height_of_fields}
use Rattle.ps_syntax.proofs.Greatest.{reached_end}
use Rattle.ps_syntax.proofs.HeightLemmas.{fields_are, limit, reached_on, told_as}
use Rattle.ps_syntax.proofs.heights.+type_height.Goals as goal

pub fields_height-loop-fields-preserved : goal.fields_height-loop-fields-preserved
fields_height-loop-fields-preserved t c = reached_on height_of_fields _ _ _ _ _ _ c.loop-fields-test.true
    c.fields-item.is c.loop-fields.invariant (told_as _ _ _ c.type_height.ensures (fields_are _)) c.max-most.ensures

pub fields_height-returns : goal.fields_height-returns
fields_height-returns t c = reached_end limit height_of_fields _ _ _ c.loop-fields-test.false c.loop-fields.invariant
