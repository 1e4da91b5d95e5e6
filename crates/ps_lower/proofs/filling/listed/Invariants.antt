use Rattle.ps_lower.proofs.Pushing.{Copied}
use Rattle.ps_lower.proofs.filling.listed.Given as goal

abbrev pub invariant-loop-temporary : goal.invariant-loop-temporary
invariant-loop-temporary l = Copied l.temporaries l.temporary-index l.list
