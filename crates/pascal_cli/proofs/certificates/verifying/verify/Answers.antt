use Rattle.pascal_cli.specs.Certificates.{NoneHolding, SomeHolding}
use Rattle.pascal_command.specs.Command as work
use Rattle.pascal_command.specs.Command.{request_in}
use Rattle.pascal_cli.proofs.Done.{did}
use Rattle.pascal_cli.proofs.Failed.{answered_by, done_by}
use Rattle.pascal_cli.proofs.certificates.verifying.verify.Goals as goal

pub returns-clause-answer : goal.returns-clause-answer
returns-clause-answer g c = answered_by SomeHolding NoneHolding _ _ _ c.status.ensures
    c.verify_paths-holds.ensures

pub returns-clause-status : goal.returns-clause-status
returns-clause-status g c =
    did (request_in c.args.job.now) (work.verify c.args.certificate.now c.args.source.now c.args.image.now) _ c.requires
    (done_by SomeHolding NoneHolding _ _ _ c.status.ensures c.verify_paths-holds.ensures)
