use Rattle.pascal_cli.proofs.Answered.{some_certificate}
use Rattle.pascal_cli.proofs.certificates.certify_files.Goals as goal

pub returns-in-Some : goal.returns-in-Some
returns-in-Some g c = some_certificate c.certify_pair.result _ c.in-Some.pair.source.items
    c.in-Some.pair.image.items c.certify_pair.ensures
