use Rattle.std.proofs.Common.{ℕ, List, inr, subst, sym}
use Rattle.pascal_certificate.specs.Form.{CertifiesWith}
use Rattle.pascal_cli.specs.Certificates.{TellsStack}
use Rattle.pascal_cli.proofs.Made.{made_is}
use Rattle.pascal_cli.proofs.certificates.put_certificate.Goals as goal

pub print_certificate-requires : goal.print_certificate-requires
print_certificate-requires g c =
    subst (λ bytes. (stack : List ℕ) × CertifiesWith c.args.source.now c.args.image.now stack bytes
    × TellsStack c.args.source.now stack) (sym c.deref.ensures.value)
    (made_is c.certificate.result _ _ c.certificate.ensures c.in-Some.ensures.value)

pub returns-in-Some : goal.returns-in-Some
returns-in-Some g c = inr
    (c.in-Some.text.items, (c.requires, made_is c.certificate.result _ _ c.certificate.ensures c.in-Some.ensures.value))
