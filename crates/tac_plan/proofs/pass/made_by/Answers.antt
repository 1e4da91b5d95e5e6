use Rattle.std.proofs.Common.{List, subst, sym}
use Rattle.tac_code.specs.declared.code.TacRoutine.{TacRoutine}
use Rattle.tac_code.specs.Sound.{AreSoundRoutines}
use Rattle.tac_plan.proofs.pass.made_by.Goals as goal

pub passed_routines-requires : goal.passed_routines-requires
passed_routines-requires c =
    subst (λ (list : List TacRoutine). AreSoundRoutines c.args.tac.now list) (sym c.program.ensures)
    c.keeps_invariant.ensures.program

pub passed_routines-requires-2 : goal.passed_routines-requires-2
passed_routines-requires-2 c =
    subst (λ (list : List TacRoutine). AreSoundRoutines c.args.tac.now list) (sym c.run_time.ensures)
    c.keeps_invariant.ensures.run_time
