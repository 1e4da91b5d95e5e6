use Rattle.pascal_command.proofs.Commands.{taken}
use Rattle.pascal_command.proofs.job.grammar.with_subcommand.Goals as goal

pub returns-in-Ok : goal.returns-in-Ok
returns-in-Ok c = λ app below made sub. c.add_subcommand.ensures app below (taken app _ _ c.in-Ok.is made) sub
