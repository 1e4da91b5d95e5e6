-- What is so of files that were read, from what is so of their bytes.
use Rattle.std.proofs.Common.{ℕ, Bool, List, inr}
use Rattle.pascal_certificate.specs.Form.{IsCertificate}
use Rattle.pascal_cli.specs.Certificates.{AreCertified, AreOthers, CertifiesSome, HasCertificate, HoldsNot}
use Rattle.pascal_cli.specs.Certificates.{IsNotBuilt, NoCertificate, NoneHolding, SomeCertificate, SomeCertified}
use Rattle.pascal_cli.specs.Certificates.{SomeHolding, SomeOthers}
use Rattle.pascal_cli.specs.Failures.{HasRefusal, Tells}
use Rattle.pascal_cli.specs.Jobs.{HasNeeds, IsAccepted, SomeAccepted, SomeNeeds, SomeRefused}
use Rattle.pascal_cli.proofs.Failed.{told_as}

pub some_text : (answer failed : Bool) (text : List ℕ) → Tells answer failed (IsAccepted text) (HasRefusal text)
    → Tells answer failed SomeAccepted SomeRefused
some_text answer failed text = told_as (IsAccepted text) (HasRefusal text) SomeAccepted SomeRefused answer failed
    (λ is. (text, is)) (λ refused. (text, (refused.0, refused.1)))

pub some_certificate : (answer failed : Bool) (source image : List ℕ)
    → Tells answer failed (HasCertificate source image) (IsNotBuilt source image)
    → Tells answer failed SomeCertificate NoCertificate
some_certificate answer failed source image = told_as (HasCertificate source image) (IsNotBuilt source image)
    SomeCertificate NoCertificate answer failed (λ has. (source, image, has)) (λ none. (source, image, none))

pub some_files : (answer failed : Bool) (source image : List ℕ) (values : List (List ℕ))
    → Tells answer failed (AreCertified source image values) (AreOthers source image values)
    → Tells answer failed (SomeCertified values) (SomeOthers values)
some_files answer failed source image values = told_as (AreCertified source image values)
    (AreOthers source image values) (SomeCertified values) (SomeOthers values) answer failed
    (λ are. (source, image, are)) (λ others. (source, image, others))

pub of_values : (answer failed : Bool) (text : List ℕ) (values : List (List ℕ)) → IsCertificate text values
    → Tells answer failed (SomeCertified values) (SomeOthers values)
    → Tells answer failed (CertifiesSome text) (HoldsNot text)
of_values answer failed text values is = told_as (SomeCertified values) (SomeOthers values) (CertifiesSome text)
    (HoldsNot text) answer failed (λ some. (some.0, some.1, some.2 text is)) (λ others. inr (values, is, others))

pub some_holding : (answer failed : Bool) (text : List ℕ)
    → Tells answer failed (CertifiesSome text) (HoldsNot text) → Tells answer failed SomeHolding NoneHolding
some_holding answer failed text = told_as (CertifiesSome text) (HoldsNot text) SomeHolding NoneHolding answer failed
    (λ some. (text, some)) (λ none. (text, none))

pub some_needs : (answer failed : Bool) (text : List ℕ) → Tells answer failed (HasNeeds text) (HasRefusal text)
    → Tells answer failed SomeNeeds SomeRefused
some_needs answer failed text = told_as (HasNeeds text) (HasRefusal text) SomeNeeds SomeRefused answer failed
    (λ has. (text, has)) (λ refused. (text, (refused.0, refused.1)))
