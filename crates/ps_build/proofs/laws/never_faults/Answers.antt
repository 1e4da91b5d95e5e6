-- The law that built images never fault.
use Rattle.ps_build.proofs.Faultless.{never_faults}
use Rattle.ps_build.proofs.laws.never_faults.Goals as goal

pub returns : goal.returns
returns c = never_faults c.accepted_fit.ensures c.code_does.ensures
