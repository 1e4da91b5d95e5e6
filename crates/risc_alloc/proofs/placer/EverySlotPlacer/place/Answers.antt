use Rattle.std.proofs.Common.{◌∙◌}
use Rattle.risc_alloc.proofs.Whole.{every_slot_valid}
use Rattle.risc_alloc.proofs.placer.EverySlotPlacer.place.Goals as goal

pub returns-clause-valid : goal.returns-clause-valid
returns-clause-valid c =
    every_slot_valid c.args.tac.now c.of_homes.result c.keeps_invariant.ensures
    (c.of_homes.ensures ∙ c.in_ok-slots_of.ensures)
