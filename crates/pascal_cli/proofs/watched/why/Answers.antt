use Rattle.std.proofs.Common.{inl}
use Rattle.pascal_session.specs.Console.{console_world, has_failed, held_of}
use Rattle.pascal_cli.specs.Jobs.{RanImage, limits_in}
use Rattle.pascal_cli.proofs.Ran.{ended_err, ended_ok}
use Rattle.pascal_cli.proofs.Watches.{reported}
use Rattle.pascal_cli.proofs.watched.why.Goals as goal

pub returns-in-Ok : goal.returns-in-Ok
returns-in-Ok g c =
    let world = console_world g.I.Read.remaining g.O.Write.contents in
    reported (RanImage c.args.program.prepared.now.text.mapped.built (limits_in c.args.job.now)
    (world c.args.console.now) (world c.end_through.new.console) (held_of c.end_through.new.console)
    (has_failed c.end_through.new.console)) c.tell_why-is_told.result _ _ c.status.result c.after_report.result
    (ended_ok _ _ _ _ _ _ _ _ _ c.in-Ok.left.outcome c.bytes-image.ensures c.budget_of.ensures c.in-Ok.ensures.runs
    c.status.ensures)
    c.after_report.ensures.status c.after_report.ensures.noted

pub returns-in-Err : goal.returns-in-Err
returns-in-Err g c = inl (ended_err _ _ _ _ _ _ _ _ _ c.in-Err.refusal c.bytes-image.ensures c.budget_of.ensures
    c.in-Err.ensures.refused c.in-Err.ensures.unchanged c.report_end.ensures)
