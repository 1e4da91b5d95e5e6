use Rattle.tac_code.specs.Sound.{code_of, limits_of, IsSoundRoutine}
use Rattle.tac_code.proofs.Each.{EachBelow}
use Rattle.tac_code.proofs.tac.are_sound_routines.Given as goal

abbrev pub invariant-loop-routine : goal.invariant-loop-routine
invariant-loop-routine l =
    EachBelow (λ _ routine. IsSoundRoutine (limits_of (code_of l.raw) routine) routine) l.routines l.routine-index
