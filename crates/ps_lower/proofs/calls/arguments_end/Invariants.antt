use Rattle.ps_lower.proofs.Actuals.{Ended}
use Rattle.ps_lower.proofs.calls.arguments_end.Given as goal

abbrev pub invariant-loop-argument : goal.invariant-loop-argument
invariant-loop-argument l = Ended l.arguments l.d l.argument-index l.rest l.depth
