use Rattle.std.proofs.Common.{◌-◌}
use Rattle.risc_emit.proofs.Peephole.{get_is, deferred_other, deferred_past}
use Rattle.risc_emit.proofs.deferred.is_behind_index.Goals as goal

pub returns-in-Some : goal.returns-in-Some
returns-in-Some c e k r =
    deferred_other k r c.args.place c.args.body.now c.in-Some.instruction.now
    (get_is c.args.body.now (c.args.place - 1) c.in-Some.instruction.now c.in-Some.ensures.lookup.3.0
    c.in-Some.ensures.lookup.1) (c.is_index.ensures.row e k r) (c.is_index.ensures.defer e k r)

pub returns-in-None : goal.returns-in-None
returns-in-None c e k r = deferred_past k r c.args.place c.args.body.now c.in-None.ensures.lookup.3
