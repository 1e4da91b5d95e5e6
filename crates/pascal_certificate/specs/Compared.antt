-- How a source and an image compare with the values of a certificate.
use Rattle.std.specs.Prelude.{◌≡◌, ◌==◌, ◌&&◌, ℕ, Bool, List, ◌∷◌, length, map, true}
use Rattle.pascal_certificate.specs.Facts.{Text, facts}
use Rattle.pascal_certificate.specs.Form.{CertifiesWith, IsCertificate}
use Rattle.pascal_certificate.specs.Sealed.{IsSeal, sealed_values}
use Rattle.pascal_certificate.specs.Differences.{Difference, differences}
use Rattle.pascal_certificate.specs.Verdict.{verdict_text}
use Rattle.pascal_certificate.specs.declared.comparison.Comparison.{Comparison}
use Rattle.pascal_certificate.specs.declared.comparison.Evidence.{Evidence}
use Rattle.pascal_certificate.specs.declared.verdict.Names.{Names}

-- the facts that are not as these values have them
abbrev pub differing : List Text → Evidence → List Difference
differing olds found = differences facts olds
    (sealed_values found.source.now found.image.now (map (λ value. value.now) found.maker.now))

-- each fact that differs is reported
abbrev pub IsTold : Names → List Text → Evidence → Comparison → Type 0
IsTold names olds found comparison = comparison.verdict.items ≡ verdict_text names (differing olds found) found.is_built

-- it holds if no fact differs and the image is that of the source
abbrev pub holds : List Text → Evidence → Bool
holds olds found = found.is_built && (length (differing olds found) == 0)

-- the certificate that holds is that of the source and the image, and says of the stack what the program says
abbrev pub CertifiesFound : List Text → Evidence → Comparison → Type 0
CertifiesFound olds found comparison =
    (source image : List ℕ) (text target stack : Text) (rest : List Text)
    → map (λ value. value.now) found.maker.now ≡ target ∷ stack ∷ rest
    → IsSeal source found.source.now → IsSeal image found.image.now
    → IsCertificate text olds → comparison.holds ≡ true
    → CertifiesWith source image stack text
