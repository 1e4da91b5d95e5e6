use Rattle.risc_alloc.proofs.Slots.{own_routine_fits}
use Rattle.risc_alloc.proofs.routine.is_placed.Goals as goal

pub returns-then-is_own-clause-fits : goal.returns-then-is_own-clause-fits
returns-then-is_own-clause-fits c =
    λ t. own_routine_fits c.args.routine.now c.args.homes.now c.requires.count c.requires.reads
    (c.is_own.ensures.0 c.if-is_own.true)
