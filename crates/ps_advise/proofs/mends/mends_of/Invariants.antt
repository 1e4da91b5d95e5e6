use Rattle.ps_advise.specs.Trials.{AreGradedOf}
use Rattle.ps_advise.proofs.mends.mends_of.Given as goal

abbrev pub invariant-loop-trial : goal.invariant-loop-trial
invariant-loop-trial l = AreGradedOf l.faulty.source.now l.mends.items
