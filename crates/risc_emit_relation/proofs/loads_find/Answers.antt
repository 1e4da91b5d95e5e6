use Rattle.risc_emit_relation.proofs.Laws.{loads_find}
use Rattle.risc_emit_relation.proofs.loads_find.Goals as goal

pub returns : goal.returns
returns c = loads_find
