-- Why a text has no tokens (ISO 7185, 6.1): the first place where the text has neither a token nor a separator of the
-- profile, and what it has there.
use Rattle.std.specs.Prelude.{◌≡◌, ℕ, ◌+◌, ◌<◌, ◌⊎◌, List, [], ◌∷◌, ◌++◌, length}
use Rattle.ps_text.specs.declared.Span.{Span}
use Rattle.ps_scan.specs.declared.TheConstants.{MAX_NUMBER}
use Rattle.ps_scan.specs.declared.refusal.ScanFault.{ScanFault}
use Rattle.ps_scan.specs.declared.refusal.ScanFault.TheVariants as fault
use Rattle.ps_scan.specs.declared.token.Kind.{Kind}
use Rattle.ps_scan.specs.declared.token.Token.{Token}
use Rattle.ps_scan.specs.Tables.{Bytes}
use Rattle.ps_scan.specs.Lexemes.{IsWord, IsDigits, digits_value, IsReal, IsInner, IsLexeme, IsOfKind}
use Rattle.ps_scan.specs.Lexis.{IsLongest, IsJoined, IsTokens}
use Rattle.ps_scan.specs.Separators.{IsSeparator}

-- the line or the text ends at the front of the bytes
abbrev pub EndsLine : Bytes → Type 0
EndsLine [] = Unit {0}
EndsLine (b ∷ bs) = (b ≡ 10) ⊎ (b ≡ 13)

-- a string whose line ends within it: two apostrophes denote one, and none closes it (6.1.7)
pub data IsOpenString : Bytes → Type 0 where
  unclosed : (inner rest : Bytes) → IsInner inner → EndsLine rest → IsOpenString (39 ∷ (inner ++ rest))

-- what a comment begins with (6.1.8)
pub data IsOpening : Bytes → Type 0 where
  brace_opens : IsOpening (123 ∷ [])
  star_opens : IsOpening (40 ∷ 42 ∷ [])

-- no separator begins at the front of the bytes
abbrev pub HasNoSeparator : Bytes → Type 0
HasNoSeparator bs = (s rest : Bytes) → bs ≡ s ++ rest → IsSeparator s → ⊥

-- What begins at the front of the bytes instead of a token or a separator: each case names the fault, the number of
-- bytes before the reported ones, and the number of those.
pub data IsFault : Bytes → ScanFault → (ahead len : ℕ) → Type 0 where
  -- a byte that begins no lexeme and no separator
  begins_nothing : {b : ℕ} (rest : Bytes) → ((u : Bytes) → IsLexeme (b ∷ u) ⊎ IsSeparator (b ∷ u) → ⊥)
      → IsFault (b ∷ rest) fault.BadByte 0 1
  -- what opens a comment that has no end
  open_comment : (w rest : Bytes) → IsOpening w → HasNoSeparator (w ++ rest)
      → IsFault (w ++ rest) fault.OpenComment 0 (length w)
  -- the apostrophe of a string whose line ends within it
  open_string : (rest : Bytes) → IsOpenString (39 ∷ rest) → IsFault (39 ∷ rest) fault.OpenString 0 1
  -- an empty string
  empty_string : (rest : Bytes) → IsLongest (39 ∷ 39 ∷ []) rest → (IsOpenString (39 ∷ 39 ∷ rest) → ⊥)
      → IsFault (39 ∷ 39 ∷ rest) fault.EmptyString 0 2
  -- a word that touches the number before it, whatever number that is (6.1.8)
  touching : (w v rest : Bytes) → IsLongest w (v ++ rest) → IsDigits w → IsLongest v rest → IsWord v
      → IsFault (w ++ (v ++ rest)) fault.SeparatorMissing (length w) (length v)
  -- a number above the largest (6.1.5)
  too_large : (w rest : Bytes) → IsLongest w rest → IsDigits w → (IsJoined rest → ⊥) → MAX_NUMBER < digits_value w
      → IsFault (w ++ rest) fault.NumberTooLarge 0 (length w)
  -- a real number, which the profile leaves out (6.1.5)
  real_literal : (w rest : Bytes) → IsLongest w rest → IsReal w → IsFault (w ++ rest) fault.RealNumber 0 (length w)

-- the span of the given length from an offset
abbrev pub span_at : ℕ → ℕ → Span
span_at from len = record { from = from; to = from + len }

-- The first fault of the bytes from an offset on, and its place: separators and tokens come before it. An open string
-- is not a token, though what is before its last apostrophe may be one.
pub data RefusedFrom : ℕ → Bytes → ScanFault → Span → Type 0 where
  here : {n ahead len : ℕ} {bs : Bytes} {why : ScanFault} → IsFault bs why ahead len
      → RefusedFrom n bs why (span_at (n + ahead) len)
  behind_separator : {n : ℕ} {why : ScanFault} {place : Span} (s rest : Bytes) → IsSeparator s
      → RefusedFrom (n + length s) rest why place → RefusedFrom n (s ++ rest) why place
  behind_token : {n : ℕ} {kind : Kind} {why : ScanFault} {place : Span} (w rest : Bytes)
      → IsLongest w rest → IsOfKind w kind → (IsWord w ⊎ IsDigits w → IsJoined rest → ⊥)
      → (IsOpenString (w ++ rest) → ⊥)
      → RefusedFrom (n + length w) rest why place → RefusedFrom n (w ++ rest) why place

-- the outcome of a text: its tokens, or its first fault with the place
pub data Scanned : Type 0 where
  Tokens : List Token → Scanned
  Refused : ScanFault → Span → Scanned

abbrev pub IsScanOf : Bytes → Scanned → Type 0
IsScanOf text (Tokens ts) = IsTokens text ts
IsScanOf text (Refused why place) = RefusedFrom 0 text why place
