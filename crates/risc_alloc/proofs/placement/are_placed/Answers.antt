use Rattle.std.proofs.Common.{◌≡◌, length, arith}
use Rattle.std.proofs.lemmas.Bool.{eqb-true, eqb-false}
use Rattle.tac_code.specs.Meaning.{routines}
use Rattle.risc_alloc.proofs.Whole.{routine_reads, placed_none, placed_next, range_own, every_within, every_ended}
use Rattle.risc_alloc.proofs.Whole.{placed_ended}
use Rattle.risc_alloc.proofs.placement.are_placed.Goals as goal

pub loop-number-init : goal.loop-number-init
loop-number-init c = placed_none c.args.tac.now c.args.homes.now

pub returns-then-homes-from-clause-refused : goal.returns-then-homes-from-clause-refused
returns-then-homes-from-clause-refused c =
    λ no all. every_within c.args.tac.now c.args.homes.now c.loop-number.number c.loop-number.from
    c.routine-routine.result.now c.loop-number.invariant c.routine-routine.ensures all (omega arith)

pub is_placed-requires-clause-reads : goal.is_placed-requires-clause-reads
is_placed-requires-clause-reads c =
    routine_reads c.args.tac.now c.loop-number.number c.routine-routine.result.now c.keeps_invariant.ensures
    c.routine-routine.ensures

pub returns-then-not-branch-clause-refused : goal.returns-then-not-branch-clause-refused
returns-then-not-branch-clause-refused c =
    λ no all. c.in_ok-is_placed.ensures.refused c.if-not-branch.true
    (range_own c.args.tac.now c.args.homes.now c.loop-number.number c.loop-number.from c.routine-routine.result.now
    c.loop-number.invariant c.routine-routine.ensures all)

pub loop-number-preserved : goal.loop-number-preserved
loop-number-preserved c =
    placed_next c.args.tac.now c.args.homes.now c.loop-number.number c.loop-number.from c.routine-routine.result.now
    c.loop-number.invariant c.routine-routine.ensures (omega arith)
    (c.in_ok-is_placed.ensures.fits c.if-not-branch.false)

pub returns-clause-valid : goal.returns-clause-valid
returns-clause-valid c =
    λ t.
    let end : c.loop-number.number ≡ length (routines c.args.tac.now) = omega arith in
    placed_ended c.args.tac.now c.args.homes.now c.loop-number.number c.loop-number.from c.loop-number.invariant end
    (eqb-true c.loop-number.from (length c.args.homes.now) t)

pub returns-clause-refused : goal.returns-clause-refused
returns-clause-refused c =
    λ no all.
    let end : c.loop-number.number ≡ length (routines c.args.tac.now) = omega arith in
    eqb-false c.loop-number.from (length c.args.homes.now) no
    (every_ended c.args.tac.now c.args.homes.now c.loop-number.number c.loop-number.from c.loop-number.invariant end
    all)
