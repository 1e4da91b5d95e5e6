use Rattle.pascal_command.proofs.job.grammar.list_command.Goals as goal

pub returns : goal.returns
returns c = c.with_usage.ensures _
    (c.command_with-list.ensures _ (c.path-source.ensures.rule, c.path-source.ensures.local))
