use Rattle.pascal_cli.specs.Failures.{has_failed}
use Rattle.pascal_cli.specs.Jobs.{limits_in}
use Rattle.pascal_cli.proofs.Watches.{run_told}
use Rattle.pascal_cli.proofs.watched.covered.cover.Goals as goal

pub returns : goal.returns
returns g c = run_told c.args.program.text.now (limits_in c.args.job.now) c.is_reported.result
    (has_failed c.cover_runs-status.new.failures) (has_failed c.after_report.new.self) c.cover_runs-status.result
    c.after_report.result c.cover_runs-status.ensures c.after_report.ensures.status c.after_report.ensures.noted
