use Rattle.std.proofs.Common.{subst, sym}
use Rattle.pascal_cli.specs.Failures.{has_failed}
use Rattle.pascal_cli.specs.Jobs.{limits_in}
use Rattle.pascal_cli.specs.Watched.{IsWatched, names_routine, routine_of}
use Rattle.pascal_cli.proofs.Watches.{reported_run, watched_run, watched_trace}
use Rattle.pascal_cli.proofs.watched.watch_program.Goals as goal

pub returns-in-Why : goal.returns-in-Why
returns-in-Why g c = reported_run c.args.program.text.now (limits_in c.args.job.now) _
    c.args.program.prepared.now.text.mapped.built _ _ _ _ (has_failed c.why.new.failures) c.why.result c.requires
    c.why.ensures

pub returns-in-Trace : goal.returns-in-Trace
returns-in-Trace g c = subst
    (λ how. IsWatched c.args.program.text.now (limits_in c.args.job.now) (names_routine how c.args.options.now)
    (has_failed c.trace.new.failures) c.trace.result)
    (sym c.in-Trace.is)
    (watched_trace c.args.program.text.now (limits_in c.args.job.now) c.args.program.prepared.now.text.mapped.built
    c.args.program.prepared.now.text.map (routine_of c.args.options.now) _ _ _ _ (has_failed c.trace.new.failures)
    c.trace.result c.requires c.trace.ensures)

pub returns-in-Cover : goal.returns-in-Cover
returns-in-Cover g c = watched_run c.args.program.text.now (limits_in c.args.job.now) _
    (has_failed c.cover.new.failures) c.cover.result c.cover.ensures

pub returns-in-Profile : goal.returns-in-Profile
returns-in-Profile g c = watched_run c.args.program.text.now (limits_in c.args.job.now) _
    (has_failed c.profile.new.failures) c.profile.result c.profile.ensures
