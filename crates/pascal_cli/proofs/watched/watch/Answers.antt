use Rattle.std.proofs.Common.{inl}
use Rattle.pascal_command.specs.Command as work
use Rattle.pascal_command.specs.Command.{request_in}
use Rattle.pascal_cli.specs.Failures.{has_failed}
use Rattle.pascal_cli.specs.Jobs.{limits_in}
use Rattle.pascal_cli.specs.Watched.{names_routine}
use Rattle.pascal_cli.proofs.Done.{did}
use Rattle.pascal_cli.proofs.Watches.{watched_done}
use Rattle.pascal_cli.proofs.watched.watch.Goals as goal

pub returns-in-Some-clause-status : goal.returns-in-Some-clause-status
returns-in-Some-clause-status g c =
    did (request_in c.args.job.now) (work.watch c.args.how c.args.path.now) c.watch_text.result c.requires
    (watched_done (limits_in c.args.job.now) (names_routine c.args.how c.args.options.now)
    (has_failed c.watch_text.new.failures) c.watch_text.result (inl (c.deref.result.now, c.watch_text.ensures)))
