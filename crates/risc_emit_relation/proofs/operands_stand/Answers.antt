use Rattle.risc_emit_relation.proofs.Laws.{operands_stand}
use Rattle.risc_emit_relation.proofs.operands_stand.Goals as goal

pub returns : goal.returns
returns c = operands_stand
