use Rattle.pascal_command.proofs.job.grammar.run_command.Goals as goal

pub returns : goal.returns
returns c = c.with_limits.ensures _ (c.command_with-run.ensures _
    (c.path-image.ensures.rule, c.path-image.ensures.local))
