-- Certificates: how what is built from a source compares with an image, and a certificate with both.
use Rattle.std.specs.Prelude.{◌≡◌, ◌⊎◌, ℕ, Bool, true, false, List, ◌∷◌, Option, Some, None, codes, decimal}
use Rattle.std.specs.Prelude.{unwrap_or}
use Rattle.pascal_certificate.specs.Compared.{holds}
use Rattle.pascal_certificate.specs.Form.{CertifiesWith, IsCertificate}
use Rattle.pascal_certificate.specs.Sealed.{IsSeal}
use Rattle.pascal_certificate.specs.declared.comparison.Comparison.{Comparison}
use Rattle.pascal_certificate.specs.declared.comparison.Evidence.{Evidence}
use Rattle.ps_build.specs.Headline.{Compiles}
use Rattle.ps_needs_image.specs.Needed.{IsNeeded}
use Rattle.ps_needs_image.specs.declared.needed.Needed.{Needed}
use Rattle.ps_needs_least.specs.declared.least.Need.{Need}
use Rattle.ps_needs_least.specs.declared.least.Need.TheVariants.{Endless, Least}
use Rattle.pascal_cli.specs.Failures.{HasRefusal}
use Rattle.pascal_cli.specs.declared.certificates.Beside.{Beside}
use Rattle.pascal_cli.specs.declared.certificates.Beside.TheVariants.{Other, Refused, Same}

-- ---- a source and an image

-- the source has an image, and it is another one
abbrev pub HasAnother : (source image : List ℕ) → Type 0
HasAnother source image = (built : List ℕ) × Compiles source built × (built ≡ image → ⊥)

-- how the source compares with the image
abbrev pub IsBeside : (source image : List ℕ) → Beside → Type 0
IsBeside source image Same = Compiles source image
IsBeside source image Other = HasAnother source image
IsBeside source image Refused = HasRefusal source

abbrev pub is_same : Beside → Bool
is_same Same = true
is_same Other = false
is_same Refused = false

-- the image is not one that is built from the source
abbrev pub IsNotBuilt : (source image : List ℕ) → Type 0
IsNotBuilt source image = HasRefusal source ⊎ HasAnother source image

abbrev pub IsBuiltOf : (source image : List ℕ) → Bool → Type 0
IsBuiltOf source image true = Compiles source image
IsBuiltOf source image false = IsNotBuilt source image

-- ---- a certificate beside them

-- the least stack that holds each path of calls, as it is written
abbrev pub least_text : Need → Option (List ℕ)
least_text (Least bytes path) = Some (decimal bytes)
least_text (Endless path) = None

-- this is the least stack of the image that is built from the source
abbrev pub TellsLeast : (source value : List ℕ) → Type 0
TellsLeast source value = (needed : Needed) × IsNeeded source needed × (least_text needed.need ≡ Some value)

-- no stack is enough for each run of that image, or the source is refused
abbrev pub HasNoLeast : (source : List ℕ) → Type 0
HasNoLeast source =
    HasRefusal source ⊎ ((needed : Needed) × IsNeeded source needed × (least_text needed.need ≡ None))

-- what is known of the stack: the least, or that there is none
abbrev pub KnowsStack : (source : List ℕ) → (known : Option (List ℕ)) → Type 0
KnowsStack source (Some value) = TellsLeast source value
KnowsStack source None = HasNoLeast source

-- this is the least stack, or says that there is none
abbrev pub TellsStack : (source value : List ℕ) → Type 0
TellsStack source value = ((value ≡ codes "not known") × HasNoLeast source) ⊎ TellsLeast source value

abbrev pub stack_told : Option (List ℕ) → List ℕ
stack_told told = unwrap_or told (codes "not known")

-- the text is a certificate of this source and its image, and what it says of the stack is true
abbrev pub IsCertified : (source image certificate : List ℕ) → Type 0
IsCertified source image certificate =
    Compiles source image
    × ((stack : List ℕ) × CertifiesWith source image stack certificate × TellsStack source stack)

-- there is a certificate of this source and this image
abbrev pub HasCertificate : (source image : List ℕ) → Type 0
HasCertificate source image = (text : List ℕ) × IsCertified source image text

-- each certificate with these values is one of the source and the image that it has
abbrev pub AreCertified : (source image : List ℕ) → (values : List (List ℕ)) → Type 0
AreCertified source image values = (text : List ℕ) → IsCertificate text values → IsCertified source image text

-- this is found of a source and an image
abbrev pub IsFound : (source image : List ℕ) → Evidence → Type 0
IsFound source image found =
    IsSeal source found.source.now × IsSeal image found.image.now × IsBuiltOf source image found.is_built

-- the values are not what is found of this source and this image, or the image is not that of the source
abbrev pub AreOthers : (source image : List ℕ) → (values : List (List ℕ)) → Type 0
AreOthers source image values = (found : Evidence) × IsFound source image found × (holds values found ≡ false)

-- a comparison says which of the two it is
abbrev pub IsComparison : (source image : List ℕ) → (values : List (List ℕ)) → Comparison → Type 0
IsComparison source image values comparison =
    (comparison.holds ≡ true → AreCertified source image values)
    × (comparison.holds ≡ false → AreOthers source image values)

-- what the program says of itself has, after the first value, this of the stack
abbrev pub TellsOfStack : (values : List (List ℕ)) → (stack : List ℕ) → Type 0
TellsOfStack values stack = (target : List ℕ) × (rest : List (List ℕ)) × (values ≡ target ∷ stack ∷ rest)

-- ---- files that were read

-- a source and an image that have a certificate, or don't
abbrev pub SomeCertificate : Type 0
SomeCertificate = (source : List ℕ) × (image : List ℕ) × HasCertificate source image

abbrev pub NoCertificate : Type 0
NoCertificate = (source : List ℕ) × (image : List ℕ) × IsNotBuilt source image

-- certificates with these values are of a source and its image, or not of those that were read
abbrev pub SomeCertified : (values : List (List ℕ)) → Type 0
SomeCertified values = (source : List ℕ) × (image : List ℕ) × AreCertified source image values

abbrev pub SomeOthers : (values : List (List ℕ)) → Type 0
SomeOthers values = (source : List ℕ) × (image : List ℕ) × AreOthers source image values

-- the text is a certificate of a source and its image
abbrev pub CertifiesSome : List ℕ → Type 0
CertifiesSome certificate = (source : List ℕ) × (image : List ℕ) × IsCertified source image certificate

-- the text has not the form of a certificate
abbrev pub HasNoForm : List ℕ → Type 0
HasNoForm text = (values : List (List ℕ)) → IsCertificate text values → ⊥

-- the text is not a certificate, or not one of what was read
abbrev pub HoldsNot : List ℕ → Type 0
HoldsNot text = HasNoForm text ⊎ ((values : List (List ℕ)) × IsCertificate text values × SomeOthers values)

-- a certificate that holds, or one that doesn't
abbrev pub SomeHolding : Type 0
SomeHolding = (text : List ℕ) × CertifiesSome text

abbrev pub NoneHolding : Type 0
NoneHolding = (text : List ℕ) × HoldsNot text
