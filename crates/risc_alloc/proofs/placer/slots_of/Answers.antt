use Rattle.std.proofs.Common.{List, ◌++◌, sym, ap, ◌∙◌}
use Rattle.tac_code.specs.Meaning.{routines}
use Rattle.risc_alloc.specs.declared.homes.Home.{Home}
use Rattle.risc_alloc.specs.Slots.{own_slots}
use Rattle.risc_alloc.proofs.Whole.{every_more}
use Rattle.risc_alloc.proofs.placer.slots_of.Goals as goal

pub loop-number-preserved : goal.loop-number-preserved
loop-number-preserved c =
    c.in_ok-add_slots.ensures ∙ ap (λ (l : List Home). l ++ own_slots c.routine.result.now.temporaries)
    c.loop-number.invariant ∙ sym (every_more
    (routines c.args.tac.now) c.loop-number.number c.routine.result.now c.routine.ensures)
