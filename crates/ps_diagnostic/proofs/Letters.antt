-- Bytes as they are shown, put letter by letter.
use Rattle.std.proofs.Common.{◌≡◌, ℕ, List, ◌∷◌, ◌++◌, map, sym, ap, ◌∙◌, append_assoc, chars}
use Rattle.std.proofs.Common.{encode_utf8, encode_utf8_all, IsUtf8}
use Rattle.std.proofs.lemmas.Str.{encodes-chars, scalars-chars}
use Rattle.bstr.specs.Utf8.{lossy_chars}
use Rattle.bstr.proofs.lemmas.EncodeLemmas.{lossy_chars-encode}
use Rattle.ps_diagnostic.specs.Printable.{visible, printable, printable_bytes}

-- a letter is put, and the rest of the letters will be
pub letter_put : (before after letters rest all : List ℕ) (letter shown : ℕ) → after ≡ before ++ encode_utf8 shown
    → shown ≡ visible letter → letters ≡ letter ∷ rest → before ++ encode_utf8_all (map visible letters) ≡ all
    → after ++ encode_utf8_all (map visible rest) ≡ all
letter_put before after letters rest all letter shown put is first so_far =
    let later = encode_utf8_all (map visible rest) in
    ap (λ text. text ++ later) put ∙ append_assoc before (encode_utf8 shown) later
    ∙ ap (λ sign. before ++ (encode_utf8 sign ++ later)) is
    ∙ ap (λ left. before ++ encode_utf8_all (map visible left)) (sym first) ∙ so_far

-- of a text the pieces are its characters
lossy_chars_of_text : (text : List ℕ) → IsUtf8 text → lossy_chars text ≡ chars text
lossy_chars_of_text text utf8 =
    ap lossy_chars (sym (encodes-chars text utf8)) ∙ lossy_chars-encode (chars text) (scalars-chars text utf8)

pub printable_text : (text : List ℕ) → IsUtf8 text → printable_bytes text ≡ printable text
printable_text text utf8 = ap (λ letters. encode_utf8_all (map visible letters)) (lossy_chars_of_text text utf8)
