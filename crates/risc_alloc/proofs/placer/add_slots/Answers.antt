use Rattle.risc_alloc.proofs.Seating.{own_more}
use Rattle.risc_alloc.proofs.placer.add_slots.Goals as goal

pub loop-slot-preserved : goal.loop-slot-preserved
loop-slot-preserved c = own_more _ _ _ c.loop-slot.slot c.loop-slot.invariant c.in_ok-push.ensures.items
