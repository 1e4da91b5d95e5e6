use Rattle.risc_emit_relation.proofs.Laws.{stack_is_exact}
use Rattle.risc_emit_relation.proofs.stack_is_exact.Goals as goal

pub returns : goal.returns
returns c = stack_is_exact
