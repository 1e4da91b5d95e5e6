use Rattle.pascal_command.proofs.Commands.{subcommand_added, taken}
use Rattle.pascal_command.proofs.job.grammar.add_subcommand.Goals as goal

pub returns-in-Ok : goal.returns-in-Ok
returns-in-Ok c = λ app below had made. subcommand_added c.args.command c.in-Ok.subcommand c.subcommand.result
    c.subcommand.ensures app below had (taken below _ _ c.in-Ok.is made)
