use Rattle.std.proofs.Common.{◌≡◌, length}
use Rattle.risc_alloc.proofs.Seating.{Here}
use Rattle.risc_alloc.proofs.window.Window.new.Given as goal

abbrev pub invariant-loop-seat : goal.invariant-loop-seat
invariant-loop-seat l = (length l.here.items ≡ l.seat-index) × Here l.seats l.from l.seat-index l.here.items
