use Rattle.ps_lower.proofs.Searches.{Passed}
use Rattle.ps_lower.proofs.Actuals.{calling_in}
use Rattle.ps_lower.proofs.calls.arguments_call.Given as goal

abbrev pub invariant-loop-argument : goal.invariant-loop-argument
invariant-loop-argument l = Passed calling_in l.arguments l.argument-index
