use Rattle.pascal_command.proofs.Commands.{argument_added, taken}
use Rattle.pascal_command.proofs.job.grammar.with_arg.Goals as goal

pub returns-in-Ok : goal.returns-in-Ok
returns-in-Ok c = λ app rule made of. argument_added c.in-Ok.command c.args.arg c.arg.result c.arg.ensures app rule
    (taken app _ _ c.in-Ok.is made) of
