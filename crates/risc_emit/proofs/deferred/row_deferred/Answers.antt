use Rattle.std.proofs.Common.{◌-◌, rules, ◌∙◌}
use Rattle.risc_emit.specs.Frames.{context_of}
use Rattle.risc_emit.proofs.Peephole.{get_is, row_some, row_none}
use Rattle.risc_emit.proofs.deferred.row_deferred.Goals as goal

pub returns-in-Some-clause-is : goal.returns-in-Some-clause-is
returns-in-Some-clause-is c =
    c.row.ensures.is ∙ row_some (context_of c.args.frame.now) c.args.frame.now.number c.args.body.now c.args.marks.now
    (search rules) c.args.place c.in-Some.instruction.now (search rules) (search rules) (search rules) (search rules)
    (get_is c.args.body.now (c.args.place - 1) c.in-Some.instruction.now c.in-Some.ensures.lookup.3.0
    c.in-Some.ensures.lookup.1)

pub returns-in-None-clause-is : goal.returns-in-None-clause-is
returns-in-None-clause-is c =
    row_none (context_of c.args.frame.now) c.args.frame.now.number c.args.place c.args.body.now
    c.in-None.ensures.lookup.3
