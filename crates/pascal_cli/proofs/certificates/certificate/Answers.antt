use Rattle.std.proofs.Common.{option_map, string_bytes}
use Rattle.std.proofs.lemmas.Result.{IfOk-weaker}
use Rattle.pascal_cli.proofs.Certified.{stack_is_told, with_stack}
use Rattle.pascal_cli.proofs.certificates.certificate.Goals as goal

pub returns : goal.returns
returns g c =
    IfOk-weaker c.certificate_of.result _ _ (λ text is. with_stack c.args.source.now c.args.image.now
    c.in_ok-source.source c.in_ok-image.image _ _ text.items c.in_ok-source.ensures c.in_ok-image.ensures
    c.maker-told.ensures (stack_is_told c.args.source.now
    (option_map (λ text. string_bytes text) c.in_ok-known.known.stack) c.in_ok-known.ensures) is)
    c.certificate_of.ensures
