use Rattle.pascal_command.proofs.job.grammar.certify_command.Goals as goal

pub returns : goal.returns
returns c = c.with_arg.ensures _ _ (c.command_with-certify.ensures _
    (c.path-source.ensures.rule, c.path-source.ensures.local)) (c.path-image.ensures.rule, c.path-image.ensures.local)
