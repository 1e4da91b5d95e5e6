use Rattle.ps_lower.proofs.Laying.{Laid, kinds_of_formals}
use Rattle.ps_lower.proofs.frames.add_formals.Given as goal

abbrev pub invariant-loop-formal : goal.invariant-loop-formal
invariant-loop-formal l = Laid kinds_of_formals l.fn.spots.items l.place l.formals l.formal-index l.spots.items l.end
