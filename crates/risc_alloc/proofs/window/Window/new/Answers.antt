use Rattle.std.proofs.Common.{refl, arith}
use Rattle.std.proofs.lemmas.Bool.{lt-ltb}
use Rattle.risc_alloc.proofs.Seating.{here_more, window_of}
use Rattle.risc_alloc.proofs.window.Window.new.Goals as goal

pub loop-seat-preserved : goal.loop-seat-preserved
loop-seat-preserved c =
    here_more c.args.seats.now c.args.from c.loop-seat.seat-index _ c.seat_from.result c.loop-seat.here.items
    c.push.new.self.items refl c.seat_from.ensures c.in_ok-push.ensures.items c.loop-seat.invariant.0
    c.loop-seat.invariant.1

pub returns : goal.returns
returns c =
    window_of c.args.seats.now c.args.from c.loop-seat.seat-index _
    (omega arith) c.loop-seat.invariant.0 c.loop-seat.invariant.1 (λ below. lt-ltb c.args.from 12 below)
