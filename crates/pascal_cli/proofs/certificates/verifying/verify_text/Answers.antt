use Rattle.std.proofs.Common.{List, ℕ, map, sym, subst}
use Rattle.std.specs.Borrow.{Bor}
use Rattle.pascal_certificate.specs.Form.{IsCertificate}
use Rattle.pascal_cli.specs.Failures.{has_failed}
use Rattle.pascal_cli.proofs.Answered.{of_values}
use Rattle.pascal_cli.proofs.Made.{inner_is, made_is}
use Rattle.pascal_cli.proofs.certificates.verifying.verify_text.Goals as goal

pub returns-in-Some-Some : goal.returns-in-Some-Some
returns-in-Some-Some g c =
    let text = c.args.certificate.now in
    of_values c.verify_files.result (has_failed c.verify_files.new.failures) text
    (map (λ (value : Bor (List ℕ)). value.now) c.deref.result.now)
    (subst (λ items. IsCertificate text (map (λ (value : Bor (List ℕ)). value.now) items))
    (sym c.deref.ensures.value)
    (inner_is c.in-Some-Some.field-0
    (λ values. IsCertificate text (map (λ (value : Bor (List ℕ)). value.now) values.items)) c.in-Some-Some.values
    c.in-Some-Some.field-0-is (made_is c.parse.result _ _ c.parse.ensures.some c.in-Some-Some.ensures.value)))
    c.verify_files.ensures
