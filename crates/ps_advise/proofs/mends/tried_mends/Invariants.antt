use Rattle.ps_advise.specs.Trials.{AreMendsOf}
use Rattle.ps_advise.proofs.mends.tried_mends.Given as goal

abbrev pub invariant-loop-trial : goal.invariant-loop-trial
invariant-loop-trial l = AreMendsOf l.source l.mends.items
