use Rattle.std.proofs.Common.{length}
use Rattle.risc_alloc.proofs.Fitting.{settled_fits}
use Rattle.risc_alloc.proofs.routine.is_apart_from.Goals as goal

pub returns : goal.returns
returns c =
    settled_fits c.args.routine.now c.args.seats.now
    (length c.args.marks.now) c.args.from c.in_ok-window.window c.is_settled.result c.in_ok-window.ensures
    c.is_settled.ensures
