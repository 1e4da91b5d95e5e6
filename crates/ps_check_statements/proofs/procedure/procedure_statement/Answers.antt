use Rattle.std.proofs.Common.{refl}
use Rattle.ps_tree.specs.View.{statement_of}
use Rattle.ps_check_judgement.proofs.Lists.{told_bind, handed_on}
use Rattle.ps_check_names.specs.Views.{meaning_of}
use Rattle.ps_check_expressions.proofs.Judgement.{arguments_listed}
use Rattle.ps_check_statements.specs.Procedures as spec
use Rattle.ps_check_statements.proofs.procedure.procedure_statement.Goals as goal

pub returns-in_err-arguments-in-RoutineParameter : goal.returns-in_err-arguments-in-RoutineParameter
unfolding spec.procedure_called meaning_of
returns-in_err-arguments-in-RoutineParameter c =
    let h = rw c.deref-in-RoutineParameter.ensures at
    c.in_err-arguments-in-RoutineParameter.ensures in
    handed_on _ _ _ _ c.from_residual-in_err-arguments-in-RoutineParameter.ensures.1
    (rw (c.in_ok-found.ensures, c.in-Name.is, c.in-RoutineParameter.is) (told_bind _ _ _ h))

pub returns-in_ok-arguments-in-RoutineParameter : goal.returns-in_ok-arguments-in-RoutineParameter
unfolding spec.procedure_called meaning_of statement_of
returns-in_ok-arguments-in-RoutineParameter c =
    let h = rw c.deref-in-RoutineParameter.ensures at
    c.in_ok-arguments-in-RoutineParameter.ensures in
    rw (
      c.in_ok-found.ensures,
      c.in-Name.is,
      c.in-RoutineParameter.is,
      h,
      ← arguments_listed
          c.in_ok-arguments-in-RoutineParameter.arguments.items,
      c.line-in-RoutineParameter.ensures,
    ) refl
