use Rattle.ps_check.proofs.RoutineLemmas.{start_answers}
use Rattle.ps_check.proofs.routines.start.Goals as goal

pub returns : goal.returns
returns c = start_answers _ _ _ _ _ _ c.paired.ensures c.inner-inner.ensures c.parameters.ensures.names
    c.parameters.ensures.entries
