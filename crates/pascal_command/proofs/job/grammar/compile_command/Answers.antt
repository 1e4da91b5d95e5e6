use Rattle.pascal_command.proofs.job.grammar.compile_command.Goals as goal

pub returns : goal.returns
returns c =
    let with_image = c.with_arg.ensures _ _ (c.command_with-compile.ensures _
    (c.path-source.ensures.rule, c.path-source.ensures.local)) (c.path-image.ensures.rule, c.path-image.ensures.local)
    in
    c.with_usage.ensures _ with_image
