use Rattle.pascal_command.proofs.job.grammar.go_command.Goals as goal

pub returns : goal.returns
returns c = c.with_limits.ensures _ (c.command_with-go.ensures _
    (c.path-source.ensures.rule, c.path-source.ensures.local))
