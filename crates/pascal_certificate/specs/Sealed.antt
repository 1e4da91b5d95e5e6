-- The sum and the size of bytes, as they are kept.
use Rattle.std.specs.Prelude.{◌≡◌, ℕ, List, ◌∷◌, string_bytes}
use Rattle.pascal_certificate.specs.Facts.{Text}
use Rattle.pascal_certificate.specs.Form.{size_text, sum_text}
use Rattle.pascal_certificate.specs.declared.made.Seal.{Seal}

-- the sum and the size are those of the bytes
abbrev pub IsSeal : List ℕ → Seal → Type 0
IsSeal bytes seal = (string_bytes seal.sum ≡ sum_text bytes) × (string_bytes seal.size ≡ size_text bytes)

-- the values of all facts
abbrev pub sealed_values : (source image : Seal) → (maker : List Text) → List Text
sealed_values source image maker =
    string_bytes source.sum ∷ string_bytes source.size ∷ string_bytes image.sum ∷ string_bytes image.size ∷ maker
