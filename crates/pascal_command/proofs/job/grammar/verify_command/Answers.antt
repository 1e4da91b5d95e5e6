use Rattle.pascal_command.proofs.job.grammar.verify_command.Goals as goal

pub returns : goal.returns
returns c =
    let with_source = c.with_arg-verify.ensures _ _ (c.command_with-verify.ensures _
    (c.path-certificate.ensures.rule, c.path-certificate.ensures.local))
    (c.path-source.ensures.rule, c.path-source.ensures.local) in
    c.with_arg.ensures _ _ with_source (c.path-image.ensures.rule, c.path-image.ensures.local)
