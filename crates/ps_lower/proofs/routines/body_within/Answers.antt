use Rattle.std.proofs.Common.{◌++◌, ap}
use Rattle.ps_tree.specs.Checked.{program_in}
use Rattle.ps_tree.specs.View.{routine_of}
use Rattle.ps_lower_code.specs.Routines.{begin_code, end_code, routine_code}
use Rattle.ps_lower_code.specs.Statements.{statements_code}
use Rattle.ps_lower.specs.Levels.{scope_of}
use Rattle.ps_lower.proofs.Refusing.{made_refused}
use Rattle.ps_lower.proofs.routines.body_within.Goals as goal

pub returns-in-Err : goal.returns-in-Err
returns-in-Err c =
    let r = routine_of c.args.routine.now in
    made_refused _ c.in-Err.refusal c.new-out.result _
    (begin_code (scope_of c.level-k.result) r ++ statements_code (scope_of c.level-k.result) r.body 0 ++ end_code r)
    (routine_code (program_in c.args.checked.now) r) c.in-Err.is c.new-out.ensures
    (ap (λ s. begin_code s r ++ statements_code s r.body 0 ++ end_code r) c.level-k.ensures) c.block.ensures
