use Rattle.risc_alloc.proofs.Fitting.{settled}
use Rattle.risc_alloc.proofs.routine.is_settled.Goals as goal

pub returns-in-Some : goal.returns-in-Some
returns-in-Some c =
    λ t. settled c.args.window.now c.in_ok-found.found c.in-Some.field-0 c.as_slice.result.now c.args.routine.now.body
    c.args.routine.now.parameters c.settle.new.table.holders.items c.in-Some.is c.in_ok-found.ensures
    c.as_slice.ensures (c.are_free_for.ensures t)
