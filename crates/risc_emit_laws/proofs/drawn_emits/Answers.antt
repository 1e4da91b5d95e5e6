use Rattle.risc_emit_laws.proofs.drawn_emits.Goals as goal
use Rattle.risc_emit_laws.proofs.Drawn.{drawn_emits}

-- src/lib.rt:13:1
pub returns : goal.returns
returns c = drawn_emits
