use Rattle.std.proofs.Common.{subst}
use Rattle.tac_code.specs.declared.check.Limits.{Limits}
use Rattle.tac_code.specs.Sound.{code_of, limits_of, IsSoundRoutine}
use Rattle.tac_code.proofs.Each.{each_below_next, all_told}
use Rattle.tac_code.proofs.tac.are_sound_routines.Goals as goal

pub loop-routine-preserved : goal.loop-routine-preserved
loop-routine-preserved c =
    each_below_next (λ _ routine. IsSoundRoutine (limits_of (code_of c.args.raw.now) routine) routine)
    c.args.routines.now c.loop-routine.routine-index c.routine-item.result c.loop-routine-test.true
    c.routine-item.is c.loop-routine.invariant c.is_sound_routine.result c.if-not-is_sound_routine.false
    (λ t. subst (λ (l : Limits). IsSoundRoutine l c.routine-item.result) c.limits.ensures
    (c.is_sound_routine.ensures.0 t))

pub returns : goal.returns
returns c =
    all_told (λ _ routine. IsSoundRoutine (limits_of (code_of c.args.raw.now) routine) routine) c.args.routines.now
    c.loop-routine.routine-index c.loop-routine-test.false c.loop-routine.invariant
