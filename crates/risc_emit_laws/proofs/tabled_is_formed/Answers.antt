use Rattle.risc_emit_laws.proofs.tabled_is_formed.Goals as goal
use Rattle.risc_emit_laws.proofs.Formed.{formed}

pub returns : goal.returns
returns c = formed
