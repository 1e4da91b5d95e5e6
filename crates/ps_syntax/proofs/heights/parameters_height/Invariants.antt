use Rattle.ps_syntax.specs.Height.{height_of_parameter}
use Rattle.ps_syntax.proofs.Greatest.{Reached}
use Rattle.ps_syntax.proofs.heights.parameters_height.Given as goal

abbrev pub invariant-loop-parameter : goal.invariant-loop-parameter
invariant-loop-parameter l = Reached 4294967295 height_of_parameter l.parameters l.parameter-index l.most
