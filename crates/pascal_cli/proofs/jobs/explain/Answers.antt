use Rattle.std.proofs.Common.{◌≡◌, ◌⊎◌, [], true, inr}
use Rattle.pascal_command.specs.Command as work
use Rattle.pascal_command.specs.Command.{request_in}
use Rattle.pascal_cli.specs.Explain.{has_page}
use Rattle.pascal_cli.proofs.Done.{did, one_of_two}
use Rattle.pascal_cli.proofs.jobs.explain.Goals as goal

pub returns-else-is_empty : goal.returns-else-is_empty
returns-else-is_empty g c =
    let topic = c.args.topic.now in
    did (request_in c.args.job.now) (work.explain topic) c.print_pages.result c.requires
    (one_of_two c.print_pages.result ((topic ≡ []) ⊎ (has_page topic ≡ true)) c.print_pages.ensures.status
    (λ zero. inr (c.print_pages.ensures.found zero)))
