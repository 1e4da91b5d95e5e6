use Rattle.std.proofs.Common.{ℕ, ◌+◌, length, ap, ◌∙◌, subst}
use Rattle.risc_alloc.specs.Fits.{SeatsFit}
use Rattle.risc_alloc.proofs.Fitting.{seats_more}
use Rattle.risc_alloc.proofs.routine.are_apart.Goals as goal

pub loop-from-preserved : goal.loop-from-preserved
loop-from-preserved c =
    seats_more c.args.routine.now c.args.seats.now c.args.count c.loop-from.from c.loop-from.invariant
    (subst (λ (n : ℕ). SeatsFit c.args.routine.now c.args.seats.now n c.loop-from.from (c.loop-from.from + 12))
    (ap length c.as_slice.ensures.value ∙ c.in_ok-marks.ensures.long)
    (c.in_ok-is_apart_from.ensures c.if-not-branch.false))
