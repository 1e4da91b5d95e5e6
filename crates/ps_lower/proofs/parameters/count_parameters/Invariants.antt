use Rattle.ps_lower.proofs.Entering.{Counted}
use Rattle.ps_lower.proofs.parameters.count_parameters.Given as goal

abbrev pub invariant-loop-formal : goal.invariant-loop-formal
invariant-loop-formal l = Counted l.formals l.formal-index l.count
