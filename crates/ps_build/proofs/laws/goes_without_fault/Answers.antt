-- The law that texts go without a fault.
use Rattle.ps_build.proofs.Faultless.{goes_without_fault}
use Rattle.ps_build.proofs.laws.goes_without_fault.Goals as goal

pub returns : goal.returns
returns c = goes_without_fault c.never_faults.ensures
