use Rattle.ps_lower.specs.Levels.{scope_of}
use Rattle.ps_lower.proofs.Entering.{Entered}
use Rattle.ps_lower.proofs.parameters.parameters.Given as goal

abbrev pub invariant-loop-formal : goal.invariant-loop-formal
invariant-loop-formal l = Entered (scope_of l.level) l.free l.fn.out l.begin l.formals l.formal-index l.out l.t l.place
