use Rattle.std.proofs.Common.{◌≡◌, ◌+◌, ℕ, arith, length, refl, subst}
use Rattle.std.proofs.lemmas.Option.{slice_get_read}
use Rattle.tac_plan.specs.Passes.{PassesRoutine}
use Rattle.tac_plan.proofs.Passing.{so_far_more}
use Rattle.tac_plan.proofs.Roomy.{sizes_more}
use Rattle.tac_plan.proofs.pass.passed_routines.Goals as goal

pub loop-at-preserved : goal.loop-at-preserved
loop-at-preserved c =
    let number : c.in-Some.number ≡ c.args.first + c.loop-at.at = first_of
    (assumption c.in-Some.ensures, omega (arith, c.in-Some.ensures), grind (arith, c.in-Some.ensures)) in
    let there = slice_get_read c.args.routines.now (length c.args.routines.now) c.loop-at.at
    c.index-routines-at.result refl c.loop-at-test.true c.index-routines-at.is in (
      so_far_more c.args.first c.args.routines.now c.loop-at.at c.loop-at.list.items c.push.new.self.items
          c.index-routines-at.result c.in_ok-routine.routine c.loop-at.invariant.0 there
          (subst (λ (k : ℕ). PassesRoutine k c.index-routines-at.result c.in_ok-routine.routine) number
          c.in_ok-routine.ensures.passes) c.in_ok-push.ensures.items,
      sizes_more c.args.routines.now c.loop-at.at c.loop-at.list.items c.push.new.self.items
          c.index-routines-at.result c.in_ok-routine.routine c.loop-at.invariant.1 there c.in_ok-routine.ensures.fills
          c.in_ok-push.ensures.items,
    )

pub passed_routine-requires : goal.passed_routine-requires
passed_routine-requires c =
    c.requires c.loop-at.at c.index-routines-at.result (slice_get_read c.args.routines.now
    (length c.args.routines.now) c.loop-at.at c.index-routines-at.result refl c.loop-at-test.true
    c.index-routines-at.is)
