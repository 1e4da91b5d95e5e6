use Rattle.std.proofs.Common.{rules, arith}
use Rattle.std.proofs.lemmas.Grind.{common_steps}
use Rattle.std.proofs.lemmas.Option.{slice_get_read, slice_get-get_or, gets}
use Rattle.risc_alloc.proofs.Seating.{seats_more, seats_all}
use Rattle.risc_alloc.proofs.seats.seats_of.Goals as goal

pub loop-home-preserved : goal.loop-home-preserved
loop-home-preserved c =
    seats_more c.args.homes.now c.loop-home.home-index c.in-Some.seat _ c.loop-home.seats.items _ c.in-Some.ensures
    (first_of (search (rules, slice_get_read, slice_get-get_or), grind (arith, common_steps, gets)))
    c.in_ok-push-in-Some.ensures.items c.loop-home.invariant.0 c.loop-home.invariant.1

pub returns : goal.returns
returns c =
    seats_all c.args.homes.now c.loop-home.home-index c.loop-home.seats.items
    (omega arith) c.loop-home.invariant.0 c.loop-home.invariant.1
