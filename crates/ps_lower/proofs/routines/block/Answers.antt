use Rattle.std.proofs.Common.{◌++◌, length, ap, subst, ◌∙◌}
use Rattle.ps_tree.specs.View.{routine_of, statements_of}
use Rattle.ps_lower_code.specs.Routines.{begin_code, end_code}
use Rattle.ps_lower_code.specs.Statements.{statements_code}
use Rattle.ps_lower.specs.Levels.{scope_of}
use Rattle.ps_lower.specs.Refused.{IsRefused}
use Rattle.ps_lower.proofs.Begins.{block_made}
use Rattle.ps_lower.proofs.Refusing.{handed_on, between_refused}
use Rattle.ps_lower.proofs.routines.block.Goals as goal

pub returns : goal.returns
returns c =
    c.lifted.ensures c.args.out.now c.finish.new.out
    (begin_code (scope_of c.args.level.now) (routine_of c.args.routine.now)
    ++ statements_code (scope_of c.args.level.now)
    (routine_of c.args.routine.now).body 0 ++ end_code (routine_of c.args.routine.now))
    (block_made (scope_of c.args.level.now) (routine_of c.args.routine.now) c.finish.result c.finish.new.out
    c.statements.new.out c.begin.new.out c.args.out.now
    c.in_ok-begin.ensures
    (c.in_ok-statements.ensures ∙ ap (λ l. c.begin.new.out ++ statements_code (scope_of c.args.level.now)
    (statements_of l) 0) c.as_slice.ensures.value)
    c.finish.ensures)

pub returns-in_err-statements : goal.returns-in_err-statements
returns-in_err-statements c =
    handed_on c.from_residual-in_err-statements.result c.args.out.now c.statements.new.out
    (begin_code (scope_of c.args.level.now) (routine_of c.args.routine.now)
    ++ statements_code (scope_of c.args.level.now)
    (routine_of c.args.routine.now).body 0 ++ end_code (routine_of c.args.routine.now)) _
    c.from_residual-in_err-statements.ensures.1
    (between_refused _ c.args.out.now c.begin.new.out
    (begin_code (scope_of c.args.level.now) (routine_of c.args.routine.now))
    (statements_code (scope_of c.args.level.now) (routine_of c.args.routine.now).body 0)
    (end_code (routine_of c.args.routine.now)) c.in_ok-begin.ensures
    (subst (λ l. IsRefused c.in_err-statements.field-0.0
    (length (c.begin.new.out ++ statements_code (scope_of c.args.level.now) (statements_of l) 0)))
    c.as_slice.ensures.value c.in_err-statements.ensures))
