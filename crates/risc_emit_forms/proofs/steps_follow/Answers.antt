use Rattle.risc_emit_forms.proofs.Laws.{steps_follow}
use Rattle.risc_emit_forms.proofs.steps_follow.Goals as goal

pub returns : goal.returns
returns c = steps_follow
