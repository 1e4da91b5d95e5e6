use Rattle.std.proofs.Common.{refl}
use Rattle.pascal_cli.proofs.Ran.{ended_err, ended_ok}
use Rattle.pascal_cli.proofs.jobs.measure_image.Goals as goal

pub returns-in-Ok : goal.returns-in-Ok
returns-in-Ok g c = ended_ok _ _ _ _ _ _ _ _ _ c.in-Ok.used.outcome refl c.budget_of.ensures c.in-Ok.ensures.runs
    c.report_end-status.ensures

pub returns-in-Err : goal.returns-in-Err
returns-in-Err g c = ended_err _ _ _ _ _ _ _ _ _ c.in-Err.refusal refl c.budget_of.ensures c.in-Err.ensures.refused
    c.in-Err.ensures.unchanged c.report_end.ensures
