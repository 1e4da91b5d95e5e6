-- Images and certificates that are of a source, or not.
use Rattle.std.proofs.Common.{◌≡◌, ◌⊎◌, ◌∙◌, ◌==◌, ap, refl, sym, subst, ℕ, Bool, true, false, List, Some, None, String}
use Rattle.std.proofs.Common.{Option, inl, inr, length, map, string_bytes}
use Rattle.std.proofs.lemmas.Bool.{and_parts, true≢false}
use Rattle.std.specs.Prelude.{IfOk, Result, Ok, Err, option_map}
use Rattle.std.specs.Str.{bytes_eq}
use Rattle.ps_build.specs.Headline.{Compiles}
use Rattle.ps_needs_image.specs.Needed.{IsNeeded}
use Rattle.ps_needs_image.specs.declared.needed.Needed.{Needed}
use Rattle.pascal_certificate.specs.Compared.{CertifiesFound, differing, holds}
use Rattle.pascal_certificate.specs.Form.{CertifiesWith, certificate_text, values_of}
use Rattle.pascal_certificate.proofs.Sealing.{values_sealed}
use Rattle.pascal_certificate.specs.Sealed.{IsSeal, sealed_values}
use Rattle.pascal_certificate.specs.declared.made.Seal.{Seal}
use Rattle.pascal_certificate.specs.declared.comparison.Comparison.{Comparison}
use Rattle.pascal_certificate.specs.declared.comparison.Evidence.{Evidence}
use Rattle.pascal_cli.specs.Certificates.{HasAnother, IsBeside, IsBuiltOf, IsComparison, is_same}
use Rattle.pascal_cli.specs.Certificates.{HasCertificate, KnowsStack, TellsOfStack, TellsStack, least_text}
use Rattle.pascal_cli.specs.Certificates.{stack_told}
use Rattle.pascal_cli.specs.declared.certificates.Beside.{Beside}
use Rattle.pascal_cli.specs.declared.certificates.Beside.TheVariants.{Other, Refused, Same}
use Rattle.pascal_command.proofs.GivenRows.{itself, same_text}

-- what was built is the image, or another
pub is_image : (source built image : List ℕ) → Compiles source built → bytes_eq built image ≡ true
    → Compiles source image
is_image source built image one e = subst (λ bytes. Compiles source bytes) (same_text built image e) one

pub is_another : (source built image : List ℕ) → Compiles source built → bytes_eq built image ≡ false
    → HasAnother source
    image
is_another source built image one e =
    (built, one, λ same. true≢false (sym (itself image) ∙ (ap (λ bytes. bytes_eq bytes image) (sym same) ∙ e)))

-- whether it is
pub built_of : (source image : List ℕ) (beside : Beside) → IsBeside source image beside → IsBuiltOf source image
    (is_same beside)
built_of source image Same is = is
built_of source image Other is = inr is
built_of source image Refused is = inl is

-- the least stack that is told is that of what is needed
knows : (known : Option (List ℕ)) (source : List ℕ) (needed : Needed) → IsNeeded source needed
    → known ≡ least_text needed.need → KnowsStack source known
knows None source needed is e = inr (needed, is, sym e)
knows (Some value) source needed is e = (needed, is, sym e)

pub least_is : {Z E : Type 0} (r : Result (Option (String Z)) E) (source : List ℕ) (needed : Needed)
    → IsNeeded source needed
    → IfOk r (λ told. option_map (λ text. string_bytes text) told ≡ least_text needed.need)
    → IfOk r (λ told. KnowsStack source (option_map (λ text. string_bytes text) told))
least_is (Ok told) source needed is e = knows (option_map (λ text. string_bytes text) told) source needed is e
least_is (Err error) source needed is e = tt

-- what is known of the stack is told
pub stack_is_told : (source : List ℕ) (known : Option (List ℕ)) → KnowsStack source known
    → TellsStack source (stack_told known)
stack_is_told source None is = inl (refl, is)
stack_is_told source (Some value) is = inr is

-- what is found of a source and an image is compared with the values of a certificate
compared_with : (values : List (List ℕ)) (found : Evidence) (comparison : Comparison) (source image : List ℕ)
    → comparison.holds ≡ holds values found
    → (stack : List ℕ) → TellsOfStack (map (λ value. value.now) found.maker.now) stack → TellsStack source stack
    → CertifiesFound values found comparison → IsSeal source found.source.now → IsSeal image found.image.now
    → IsBuiltOf source image found.is_built → IsComparison source image values comparison
compared_with values found comparison source image e stack tells known certifies one other built = (
  λ held text is. (
    built_if found.is_built (and_parts found.is_built (length (differing values found) == 0) (sym e ∙ held)).0 built,
    (stack, certifies source image text tells.0 stack tells.1 tells.2 one other is held, known),
  ),
  λ fails. (found, (one, other, built), sym e ∙ fails),
)
  where
    built_if : (b : Bool) → b ≡ true → IsBuiltOf source image b → Compiles source image
    built_if true e is = is
    built_if false e is = absurd (true≢false (sym e))

pub compared_ok : {E : Type 0} (r : Result Comparison E) (values : List (List ℕ)) (found : Evidence)
    (source image : List ℕ) → IfOk r (λ comparison. comparison.holds ≡ holds values found)
    → (stack : List ℕ) → TellsOfStack (map (λ value. value.now) found.maker.now) stack → TellsStack source stack
    → IfOk r (CertifiesFound values found) → IsSeal source found.source.now → IsSeal image found.image.now
    → IsBuiltOf source image found.is_built → IfOk r (IsComparison source image values)
compared_ok (Ok comparison) values found source image e stack tells known certifies one other built = compared_with
    values found comparison source image e stack tells known certifies one other built
compared_ok (Err error) values found source image e stack tells known certifies one other built = tt

-- the certificate of bytes is that of the same bytes
pub certificate_of_same : (failed : Bool) (s t i j : List ℕ) → s ≡ t → i ≡ j → (failed ≡ true) ⊎ HasCertificate s i
    → (failed ≡ true) ⊎ HasCertificate t j
certificate_of_same failed s t i j one other has =
    subst (λ x. (failed ≡ true) ⊎ HasCertificate x j) one
    (subst (λ y. (failed ≡ true) ⊎ HasCertificate s y) other has)

-- a certificate that is made of what is known
pub with_stack : (source image : List ℕ) (s i : Seal) (maker : List (List ℕ)) (stack text : List ℕ) → IsSeal source s
    → IsSeal image i → TellsOfStack maker stack → TellsStack source stack
    → text ≡ certificate_text (sealed_values s i maker)
    → (told : List ℕ) × CertifiesWith source image told text × TellsStack source told
with_stack source image s i maker stack text one other tells known is = (
  stack,
  (
    tells.0,
    tells.1,
    is ∙ ap certificate_text (values_sealed source image s i maker one other
        ∙ ap (λ m. values_of source image m) tells.2),
  ),
  known,
)
