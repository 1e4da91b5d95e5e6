use Rattle.risc_emit_relation.proofs.Laws.{related_enters}
use Rattle.risc_emit_relation.proofs.related_enters.Goals as goal

pub returns : goal.returns
returns c = related_enters
