-- The law of steps, as its lemma proves it.
use Rattle.risc_emit_forms.specs.Laws.{StepsFollow}
use Rattle.risc_emit_forms.proofs.Steps.{step_follows}

pub steps_follow : StepsFollow
steps_follow = step_follows
