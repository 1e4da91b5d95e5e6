use Rattle.std.proofs.Common.{sym, subst, map, length}
use Rattle.std.proofs.lemmas.List.{length-map}
use Rattle.pascal_command.specs.Command as work
use Rattle.pascal_command.specs.Command.{request_in}
use Rattle.pascal_cli.specs.Failures.{Tells, has_failed}
use Rattle.pascal_cli.specs.Jobs.{AreAccepted, SomeRefused}
use Rattle.pascal_cli.proofs.Done.{did}
use Rattle.pascal_cli.proofs.Failed.{answered_by, done_by}
use Rattle.pascal_cli.proofs.checks.check.Goals as goal

pub returns-clause-answer : goal.returns-clause-answer
returns-clause-answer g c = answered_by (AreAccepted (length c.args.files.now)) SomeRefused _ _ _ c.status.ensures
    c.check_files-are_accepted.ensures

pub returns-clause-status : goal.returns-clause-status
returns-clause-status g c =
    let files = map (λ file. file.now) c.args.files.now in
    did (request_in c.args.job.now) (work.check files) c.status.result c.requires
    (done_by (AreAccepted (length files)) SomeRefused _ _ _ c.status.ensures
    (subst (λ n. Tells c.check_files-are_accepted.result (has_failed c.check_files-are_accepted.new.failures)
    (AreAccepted n) SomeRefused)
    (sym (length-map c.args.files.now (λ file. file.now))) c.check_files-are_accepted.ensures))
