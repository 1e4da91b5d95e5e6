use Rattle.ps_syntax.specs.Height.{height_of_fields}
use Rattle.ps_syntax.proofs.Greatest.{Reached}
use Rattle.ps_syntax.proofs.heights.+type_height.Given as goal

abbrev pub invariant-fields_height-loop-fields : goal.invariant-fields_height-loop-fields
invariant-fields_height-loop-fields l = Reached 4294967295 height_of_fields l.sections l.fields-index l.most
