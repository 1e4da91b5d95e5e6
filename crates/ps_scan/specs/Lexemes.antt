-- The lexical classes as lists of bytes (ISO 7185, 6.1), and the kind of a token.
use Rattle.std.specs.Prelude.{◌≡◌, ◌≢◌, ℕ, ◌+◌, ◌*◌, ◌-◌, ◌<◌, ◌≤◌, ◌⊎◌, true, [], ◌∷◌, ◌++◌, length, fold, Some}
use Rattle.std.specs.Char.{is_ascii_alphabetic, is_ascii_alphanumeric, is_ascii_digit, to_ascii_lowercase}
use Rattle.std.specs.List.{list_all}
use Rattle.ps_scan.specs.declared.TheConstants.{MAX_NUMBER}
use Rattle.ps_scan.specs.declared.token.Kind.{Kind}
use Rattle.ps_scan.specs.declared.token.Kind.TheVariants as k
use Rattle.ps_scan.specs.Tables.{Bytes, word_kind, symbol_kind}

-- a letter, and then letters and digits (6.1.2 and 6.1.3)
abbrev pub IsWord : Bytes → Type 0
IsWord [] = ⊥
IsWord (b ∷ bs) = (is_ascii_alphabetic b ≡ true) × (list_all is_ascii_alphanumeric bs ≡ true)

-- one digit or more (6.1.5)
abbrev pub IsDigits : Bytes → Type 0
IsDigits [] = ⊥
IsDigits (b ∷ bs) = list_all is_ascii_digit (b ∷ bs) ≡ true

-- the number that digits denote
abbrev pub digits_value : Bytes → ℕ
digits_value = fold (λ n b. 10 * n + (b - 48)) 0

-- e, an optional sign, and digits (6.1.5)
pub data IsScale : Bytes → Type 0 where
  unsigned : {e : ℕ} {ds : Bytes} → to_ascii_lowercase e ≡ 101 → IsDigits ds → IsScale (e ∷ ds)
  signed : {e sign : ℕ} {ds : Bytes} → to_ascii_lowercase e ≡ 101 → (sign ≡ 43) ⊎ (sign ≡ 45) → IsDigits ds → IsScale
      (e ∷ sign ∷ ds)

-- a real literal (6.1.5)
pub data IsReal : Bytes → Type 0 where
  with_fraction : (a b : Bytes) → IsDigits a → IsDigits b → IsReal (a ++ 46 ∷ b)
  with_both : (a b s : Bytes) → IsDigits a → IsDigits b → IsScale s → IsReal (a ++ 46 ∷ (b ++ s))
  with_scale : (a s : Bytes) → IsDigits a → IsScale s → IsReal (a ++ s)

-- what is between the apostrophes of a string: two apostrophes denote one, and no line ends within (6.1.7)
pub data IsInner : Bytes → Type 0 where
  done : IsInner []
  plain : {b : ℕ} {bs : Bytes} → b ≢ 39 → b ≢ 10 → b ≢ 13 → IsInner bs → IsInner (b ∷ bs)
  quote : {bs : Bytes} → IsInner bs → IsInner (39 ∷ 39 ∷ bs)

-- a string, empty or not (6.1.7)
pub data IsString : Bytes → Type 0 where
  quoted : {bs : Bytes} → IsInner bs → IsString (39 ∷ (bs ++ 39 ∷ []))

-- a list of bytes of one of the lexical classes
pub data IsLexeme : Bytes → Type 0 where
  word : {w : Bytes} → IsWord w → IsLexeme w
  digits : {w : Bytes} → IsDigits w → IsLexeme w
  real : {w : Bytes} → IsReal w → IsLexeme w
  string : {w : Bytes} → IsString w → IsLexeme w
  symbol : {w : Bytes} {kind : Kind} → symbol_kind w ≡ Some kind → IsLexeme w

-- The kind of a token. A word is a word-symbol or a name. A number that is too large, a real literal and an empty
-- string are not tokens.
pub data IsOfKind : Bytes → Kind → Type 0 where
  of_word : {w : Bytes} {kind : Kind} → IsWord w → kind ≡ word_kind w → IsOfKind w kind
  of_number : {w : Bytes} → IsDigits w → digits_value w ≤ MAX_NUMBER → IsOfKind w k.Number
  of_string : {w : Bytes} → IsString w → 2 < length w → IsOfKind w k.Text
  of_symbol : {w : Bytes} {kind : Kind} → symbol_kind w ≡ Some kind → IsOfKind w kind
