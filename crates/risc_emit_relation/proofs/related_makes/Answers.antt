use Rattle.risc_emit_relation.proofs.Laws.{related_makes}
use Rattle.risc_emit_relation.proofs.related_makes.Goals as goal

pub returns : goal.returns
returns c = related_makes
