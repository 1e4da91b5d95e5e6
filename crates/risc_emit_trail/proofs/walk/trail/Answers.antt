-- The lines that were walked are those that are told.
use Rattle.risc_emit_trail.proofs.Limit.{without_table, with_table}
use Rattle.risc_emit_trail.proofs.walk.trail.Goals as goal

pub returns-in-None : goal.returns-in-None
returns-in-None c = without_table c.args.image.now c.args.machine.now c.calls.result c.calls.ensures c.in-None.is

pub returns-in-Some : goal.returns-in-Some
returns-in-Some c = with_table c.args.image.now c.args.machine.now c.calls.result c.in-Some.field-0 c.walked.result
    c.calls.ensures c.in-Some.is c.walked.ensures
