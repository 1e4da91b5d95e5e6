use Rattle.std.proofs.Common.{option_map, string_bytes, subst}
use Rattle.pascal_certificate.specs.Sealed.{IsSeal}
use Rattle.pascal_cli.specs.Certificates.{KnowsStack}
use Rattle.pascal_cli.proofs.Certified.{stack_is_told}
use Rattle.pascal_cli.proofs.certificates.verifying.comparison.Goals as goal

pub compared_found-requires-clause-found : goal.compared_found-requires-clause-found
compared_found-requires-clause-found g c = (
  subst (λ bytes. IsSeal bytes c.in_ok-source.source) c.deref-2.ensures.value c.in_ok-source.ensures,
  subst (λ bytes. IsSeal bytes c.in_ok-image.image) c.deref-3.ensures.value c.in_ok-image.ensures,
  c.requires,
)

pub compared_found-requires-clause-stack : goal.compared_found-requires-clause-stack
compared_found-requires-clause-stack g c = (
  _,
  c.maker-told.ensures,
  stack_is_told c.args.pair.now.source.items (option_map (λ text. string_bytes text) c.in_ok-known.known.stack)
      (subst (λ bytes. KnowsStack bytes (option_map (λ text. string_bytes text) c.in_ok-known.known.stack))
      c.deref.ensures.value c.in_ok-known.ensures),
)
