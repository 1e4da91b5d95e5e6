use Rattle.ps_advise.specs.Trials.{HaveMendsOf}
use Rattle.ps_advise.proofs.warned.warned.Given as goal

abbrev pub invariant-loop-warning : goal.invariant-loop-warning
invariant-loop-warning l = HaveMendsOf l.text l.told.items
