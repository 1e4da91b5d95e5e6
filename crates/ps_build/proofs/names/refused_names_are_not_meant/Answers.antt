use Rattle.ps_build.proofs.Named.{refused_names_are_not_meant}
use Rattle.ps_build.proofs.names.refused_names_are_not_meant.Goals as goal

pub returns : goal.returns
returns c = refused_names_are_not_meant
