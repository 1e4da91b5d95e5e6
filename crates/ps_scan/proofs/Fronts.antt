-- What is at the front of the bytes, according to the definition.
use Rattle.std.proofs.Common.{◌≡◌, ◌≢◌, ℕ, ◌⊎◌, Bool, true, false, cond, Ok, Err, refl, ◌∷◌, ◌++◌, length}
use Rattle.ps_scan.specs.declared.lexeme.Lexeme.{Lexeme}
use Rattle.ps_scan.specs.declared.token.Kind.{Kind}
use Rattle.ps_scan.specs.Faults.{IsFault, IsOpenString}
use Rattle.ps_scan.specs.Lexemes.{IsWord, IsDigits, IsOfKind}
use Rattle.ps_scan.specs.Lexis.{IsLongest, IsJoined}
use Rattle.ps_scan.specs.Scanner.{Finding, separator_of, token_of}
use Rattle.ps_scan.specs.Separators.{IsSeparator}
use Rattle.ps_scan.specs.Tables.{Bytes}
use Rattle.ps_scan.proofs.Strings.{open_has_none}

pub data Front : Bytes → Lexeme → Type 0 where
  separates : (s rest : Bytes) → IsSeparator s → Front (s ++ rest) (separator_of (length s))
  stands : {kind : Kind} (w rest : Bytes) → IsLongest w rest → IsOfKind w kind
      → (IsWord w ⊎ IsDigits w → IsJoined rest → ⊥) → (IsOpenString (w ++ rest) → ⊥)
      → Front (w ++ rest) (token_of (length w) kind)

-- what was found is what the definition has there
abbrev pub IsFound : Bytes → Finding → Type 0
IsFound bs (Ok l) = Front bs l
IsFound bs (Err f) = IsFault bs f.fault f.ahead f.length

-- no comment opens with another byte
pub no_comment_at : (b : ℕ) (bs : Bytes) → b ≢ 40 → (v : Bytes) → b ∷ bs ≡ 40 ∷ 42 ∷ v → ⊥
no_comment_at b bs other v e = other (cc)

-- nor does a string
pub no_string_at : (b : ℕ) (bs : Bytes) → b ≢ 39 → IsOpenString (b ∷ bs) → ⊥
no_string_at b bs other is_open = other (open_has_none 1 b bs refl is_open).0

-- what holds of either way that a test goes
pub either : {A : Type 0} (P : A → Type 0) (b : Bool) (x y : A) → (b ≡ true → P x) → (b ≡ false → P y) → P (cond b x y)
either P true x y holds fails = holds refl
either P false x y holds fails = fails refl

pub heads : (a b : ℕ) (cs bs : Bytes) → a ∷ cs ≡ b ∷ bs → a ≡ b
heads a b cs bs e = cc
