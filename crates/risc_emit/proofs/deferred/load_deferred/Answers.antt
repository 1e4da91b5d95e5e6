use Rattle.std.proofs.Common.{◌-◌, Some, slice_get, rules, ap, ◌∙◌}
use Rattle.risc_emit_forms.specs.Peephole.{defer}
use Rattle.risc_emit.specs.Frames.{context_of}
use Rattle.risc_emit.proofs.Peephole.{get_is, load_some, load_none}
use Rattle.risc_emit.proofs.deferred.load_deferred.Goals as goal

pub returns-in-Some : goal.returns-in-Some
returns-in-Some c =
    c.defer.ensures ∙ ap (λ o. defer (context_of c.args.frame.now) c.args.frame.now.number o
    (Some c.in-Some.instruction.now) (slice_get c.args.body.now c.args.place)) c.row_deferred-before.ensures.is
    ∙ load_some (context_of c.args.frame.now) c.args.frame.now.number c.args.body.now c.args.marks.now (search rules)
    c.args.place c.in-Some.instruction.now (search rules) (search rules) (search rules)
    (get_is c.args.body.now (c.args.place - 1) c.in-Some.instruction.now c.in-Some.ensures.lookup.3.0
    c.in-Some.ensures.lookup.1)

pub returns-in-None : goal.returns-in-None
returns-in-None c =
    load_none (context_of c.args.frame.now) c.args.frame.now.number c.args.place c.args.body.now
    c.in-None.ensures.lookup.3
