use Rattle.risc_emit_laws.proofs.emission_keeps.Goals as goal
use Rattle.risc_emit_laws.proofs.Same.{emission_keeps}

-- src/lib.rt:8:1
pub returns : goal.returns
returns c = emission_keeps
