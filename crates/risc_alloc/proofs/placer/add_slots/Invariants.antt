use Rattle.std.proofs.Common.{◌≡◌, ◌++◌}
use Rattle.risc_alloc.specs.Slots.{own_slots}
use Rattle.risc_alloc.proofs.placer.add_slots.Given as goal

abbrev pub invariant-loop-slot : goal.invariant-loop-slot
invariant-loop-slot l = l.homes.items ≡ l.initial.homes.items ++ own_slots l.slot
