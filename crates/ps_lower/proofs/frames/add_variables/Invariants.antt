use Rattle.ps_lower.proofs.Laying.{Laid, kinds_of_variables}
use Rattle.ps_lower.proofs.frames.add_variables.Given as goal

abbrev pub invariant-loop-ty : goal.invariant-loop-ty
invariant-loop-ty l = Laid kinds_of_variables l.fn.spots.items l.place l.variables l.ty-index l.spots.items l.end
