use Rattle.std.proofs.Common.{◌≡◌, take}
use Rattle.tac_code.specs.Meaning.{routines}
use Rattle.risc_alloc.specs.Slots.{every_slot}
use Rattle.risc_alloc.proofs.placer.slots_of.Given as goal

abbrev pub invariant-loop-number : goal.invariant-loop-number
invariant-loop-number l = l.homes.items ≡ every_slot (take l.number (routines l.tac))
