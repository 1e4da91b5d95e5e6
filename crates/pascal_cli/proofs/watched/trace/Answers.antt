use Rattle.pascal_cli.proofs.Watches.{traced_run}
use Rattle.pascal_cli.proofs.watched.trace.Goals as goal

pub returns-in-None : goal.returns-in-None
returns-in-None g c = traced_run c.unknown_routine.result _ _ _ _ _ _ c.in-None.is c.unknown_routine.ensures
    c.trace_run.ensures
