use Rattle.pascal_cli.specs.Failures.{has_failed}
use Rattle.pascal_cli.proofs.Certified.{certificate_of_same}
use Rattle.pascal_cli.proofs.certificates.certify_pair.Goals as goal

pub returns-in-Some-Same : goal.returns-in-Some-Same
returns-in-Some-Same g c =
    certificate_of_same (has_failed c.put_certificate.new.failures) c.deref-in-Some-Same.result.now
    c.args.pair.now.source.items c.deref-in-Some-Same-2.result.now c.args.pair.now.image.items
    c.deref-in-Some-Same.ensures.value c.deref-in-Some-Same-2.ensures.value c.put_certificate.ensures
