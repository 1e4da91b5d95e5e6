use Rattle.pascal_command.specs.Command as work
use Rattle.pascal_command.specs.Command.{request_in}
use Rattle.pascal_cli.specs.Jobs.{SomeNeeds, SomeRefused}
use Rattle.pascal_cli.proofs.Done.{did}
use Rattle.pascal_cli.proofs.Failed.{answered_by, done_by}
use Rattle.pascal_cli.proofs.needs.needs.Goals as goal

pub returns-clause-answer : goal.returns-clause-answer
returns-clause-answer g c = answered_by SomeNeeds SomeRefused _ _ _ c.status.ensures c.tell_needed_at-is_told.ensures

pub returns-clause-status : goal.returns-clause-status
returns-clause-status g c =
    did (request_in c.args.job.now) (work.needs c.args.source.now) _ c.requires
    (done_by SomeNeeds SomeRefused _ _ _ c.status.ensures c.tell_needed_at-is_told.ensures)
