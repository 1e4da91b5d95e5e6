use Rattle.pascal_cli.specs.Failures.{has_failed}
use Rattle.pascal_cli.specs.Jobs.{limits_in}
use Rattle.pascal_cli.proofs.Watches.{image_told}
use Rattle.pascal_cli.proofs.watched.profile.Goals as goal

pub returns : goal.returns
returns g c = image_told c.args.program.text.now (limits_in c.args.job.now)
    c.args.program.prepared.now.text.mapped.built _ _ _ _ c.is_reported.result _
    (has_failed c.after_report.new.self) c.count-status.result c.after_report.result c.requires
    c.count-status.ensures c.after_report.ensures.status c.after_report.ensures.noted
