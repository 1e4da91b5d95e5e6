-- What is told of seals is told of the bytes that they are of.
use Rattle.std.proofs.Common.{◌≡◌, ◌∙◌, ap, ap₂, ℕ, List, ◌∷◌}
use Rattle.pascal_certificate.specs.Facts.{Text}
use Rattle.pascal_certificate.specs.Form.{Certifies, certificate_text, values_of}
use Rattle.pascal_certificate.specs.Sealed.{IsSeal, sealed_values}
use Rattle.pascal_certificate.specs.declared.made.Seal.{Seal}

pub values_sealed : (source image : List ℕ) (s i : Seal) (maker : List Text) → IsSeal source s → IsSeal image i
    → sealed_values s i maker ≡ values_of source image maker
values_sealed source image s i maker one other =
    ap₂ (λ a b. a ∷ b) one.0 (ap₂ (λ a b. a ∷ b) one.1 (ap₂ (λ a b. a ∷ b) other.0 (ap (λ a. a ∷ maker) other.1)))

pub certified : (source image : List ℕ) (s i : Seal) (maker : List Text) (text : Text) → IsSeal source s
    → IsSeal image i
    → text ≡ certificate_text (sealed_values s i maker) → Certifies source image text
certified source image s i maker text one other is =
    (maker, is ∙ ap certificate_text (values_sealed source image s i maker one other))
