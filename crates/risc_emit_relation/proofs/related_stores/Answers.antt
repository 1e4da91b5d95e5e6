use Rattle.risc_emit_relation.proofs.Laws.{related_stores}
use Rattle.risc_emit_relation.proofs.related_stores.Goals as goal

pub returns : goal.returns
returns c = related_stores
