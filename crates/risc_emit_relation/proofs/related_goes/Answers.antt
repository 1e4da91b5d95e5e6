use Rattle.risc_emit_relation.proofs.Laws.{related_goes}
use Rattle.risc_emit_relation.proofs.related_goes.Goals as goal

pub returns : goal.returns
returns c = related_goes
