use Rattle.ps_syntax.specs.Height.{height_of_variable}
use Rattle.ps_syntax.proofs.Greatest.{Reached}
use Rattle.ps_syntax.proofs.heights.variables_height.Given as goal

abbrev pub invariant-loop-variable : goal.invariant-loop-variable
invariant-loop-variable l = Reached 4294967295 height_of_variable l.variables l.variable-index l.most
