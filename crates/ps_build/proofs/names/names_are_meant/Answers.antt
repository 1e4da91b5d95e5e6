use Rattle.ps_build.proofs.Named.{names_are_meant}
use Rattle.ps_build.proofs.names.names_are_meant.Goals as goal

pub returns : goal.returns
returns c = names_are_meant
