use Rattle.ps_advise.specs.Trials.{AreMendsOf}
use Rattle.ps_advise.proofs.mends.best_of.Given as goal

abbrev pub invariant-loop-graded : goal.invariant-loop-graded
invariant-loop-graded l = AreMendsOf l.source l.told.items
