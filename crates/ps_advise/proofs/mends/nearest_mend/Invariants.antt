use Rattle.std.specs.Prelude.{IfSome}
use Rattle.ps_advise.specs.Trials.{IsMendOf}
use Rattle.ps_advise.proofs.mends.nearest_mend.Given as goal

abbrev pub invariant-loop-hopeful : goal.invariant-loop-hopeful
invariant-loop-hopeful l = IfSome l.found (λ found. IsMendOf l.faulty.source.now found.mend.mend)
