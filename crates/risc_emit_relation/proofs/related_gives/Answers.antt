use Rattle.risc_emit_relation.proofs.Laws.{related_gives}
use Rattle.risc_emit_relation.proofs.related_gives.Goals as goal

pub returns : goal.returns
returns c = related_gives
