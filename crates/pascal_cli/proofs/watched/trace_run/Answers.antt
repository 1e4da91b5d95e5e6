use Rattle.std.proofs.Common.{◌&&◌, inl, not, refl, Ok}
use Rattle.pascal_session.specs.Console.{console_world, has_failed, held_of}
use Rattle.pascal_session.specs.Report.{status_of}
use Rattle.pascal_cli.specs.Jobs.{RanImage, limits_in}
use Rattle.pascal_cli.proofs.Ran.{ended_ok}
use Rattle.pascal_cli.proofs.Watches.{reported}
use Rattle.pascal_cli.proofs.watched.trace_run.Goals as goal

pub returns-in-Ok : goal.returns-in-Ok
returns-in-Ok g c =
    let world = console_world g.I.Read.remaining g.O.Write.contents in
    let followed = c.in-Ok.followed in
    inl (reported (RanImage c.args.program.prepared.now.text.mapped.built (limits_in c.args.job.now)
    (world c.args.console.now) (world c.trace_through.new.console) (held_of c.trace_through.new.console)
    (has_failed c.trace_through.new.console)) (followed.is_whole && not followed.is_cut) _ _
    (status_of (Ok followed.outcome)) c.tell_followed.result
    (ended_ok _ _ _ _ _ _ _ _ _ followed.outcome refl c.budget_of.ensures c.in-Ok.ensures.runs refl)
    c.tell_followed.ensures.status c.tell_followed.ensures.noted)
