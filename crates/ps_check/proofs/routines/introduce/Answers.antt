use Rattle.std.proofs.Common.{rules, Some, ap, sym, ◌∙◌}
use Rattle.ps_check_names.specs.Views.{context_of}
use Rattle.ps_check_declarations.specs.Views.{frame_of}
use Rattle.ps_check.specs.Blocks.{routine}
use Rattle.ps_check.specs.Views.{routines_of}
use Rattle.ps_check.proofs.RoutineLemmas.{answered, told_as, introduced_waiting, introduced_twice, introduced_new}
use Rattle.ps_check.proofs.routines.introduce.Goals as goal

pub returns-in-Some-true : goal.returns-in-Some-true
returns-in-Some-true c =
    let waits = rw c.deref.ensures.value at (c.in_ok-completes.ensures (context_of c.args.frame.now.reading.now)) in
    introduced_waiting (frame_of c.args.frame.now)
    (routine (context_of c.args.frame.now.reading.now) c.args.written.now)
    (routines_of c.args.local.now c.args.gathered.now)
    (sym (c.in-Some-true.is ∙ ap Some c.in-Some-true.field-0-test) ∙ waits)

pub returns-in-Some-false : goal.returns-in-Some-false
returns-in-Some-false c =
    let waits = rw c.deref.ensures.value at (c.in_ok-completes.ensures (context_of c.args.frame.now.reading.now)) in
    told_as _ _ _ (introduced_twice (frame_of c.args.frame.now)
    (routine (context_of c.args.frame.now.reading.now) c.args.written.now)
    (routines_of c.args.local.now c.args.gathered.now)
    (sym (c.in-Some-false.is ∙ ap Some c.in-Some-false.field-0-test) ∙ waits)) (search rules)

pub returns-in-None : goal.returns-in-None
returns-in-None c =
    let waits = rw c.deref.ensures.value at (c.in_ok-completes.ensures (context_of c.args.frame.now.reading.now)) in
    answered _ _ _ _ (introduced_new (frame_of c.args.frame.now)
    (routine (context_of c.args.frame.now.reading.now) c.args.written.now)
    (routines_of c.args.local.now c.args.gathered.now) (sym c.in-None.is ∙ waits)) c.add_heading.ensures
