use Rattle.std.proofs.Common.{arith}
use Rattle.risc_alloc.proofs.Fitting.{apart_of}
use Rattle.risc_alloc.proofs.routine.is_apart.Goals as goal

pub returns-in-Some : goal.returns-in-Some
returns-in-Some c =
    apart_of c.args.routine.now c.args.homes.now c.in_ok-seats.field-0 c.in-Some.seats c.as_slice.result.now _
    c.are_apart.result c.in_ok-seats.ensures c.in-Some.is c.as_slice.ensures.value (omega arith) c.are_apart.ensures
