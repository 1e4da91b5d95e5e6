use Rattle.std.proofs.Common.{length}
use Rattle.pascal_cli.specs.Failures.{has_failed}
use Rattle.pascal_cli.specs.Jobs.{limits_in}
use Rattle.pascal_cli.proofs.Watches.{covers_run}
use Rattle.pascal_cli.proofs.watched.covered.cover_runs.Goals as goal

pub returns-then-not-is_empty : goal.returns-then-not-is_empty
returns-then-not-is_empty g c = covers_run c.args.program.text.now (limits_in c.args.job.now)
    (has_failed c.cover_files.new.failures) (length c.args.options.now.inputs.items) c.cover_files.result
    c.cover_files.ensures
