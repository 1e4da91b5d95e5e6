use Rattle.risc_emit_relation.proofs.Laws.{related_leaves}
use Rattle.risc_emit_relation.proofs.related_leaves.Goals as goal

pub returns : goal.returns
returns c = related_leaves
