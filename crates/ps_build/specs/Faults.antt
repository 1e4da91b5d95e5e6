-- The faults of a run, as an outcome reports them.
use Rattle.behavior.specs.Endings as ending
use Rattle.ps_build.specs.declared.outcome.FaultKind.{FaultKind}
use Rattle.ps_build.specs.declared.outcome.FaultKind.TheVariants.{BadWord, BadAddress, BadDivisor, BadJump, UnknownTrap}

abbrev pub kind_told : ending.FaultKind → FaultKind
kind_told ending.BadWord = BadWord
kind_told ending.BadAddress = BadAddress
kind_told ending.BadDivisor = BadDivisor
kind_told ending.BadJump = BadJump
kind_told ending.UnknownTrap = UnknownTrap
