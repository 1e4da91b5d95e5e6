-- The tokens of a text (ISO 7185, 6.1): which list of tokens a text has. "The longest" is expressed as "no longer one
-- fits".
use Rattle.std.specs.Prelude.{◌≡◌, ℕ, ◌+◌, ◌≤◌, ◌⊎◌, true, List, [], ◌∷◌, ◌++◌, length}
use Rattle.std.specs.Char.{is_ascii_alphanumeric}
use Rattle.ps_scan.specs.declared.token.Kind.{Kind}
use Rattle.ps_scan.specs.declared.token.Token.{Token}
use Rattle.ps_scan.specs.Tables.{Bytes}
use Rattle.ps_scan.specs.Lexemes.{IsWord, IsDigits, IsLexeme, IsOfKind}
use Rattle.ps_scan.specs.Separators.{IsSeparator}

-- the bytes w, which rest follows, are of a lexical class; no longer lexeme begins at their place, nor does a comment
pub record IsLongest (w rest : Bytes) : Type 0 where
  pub fits : IsLexeme w
  pub longest : (u v : Bytes) → w ++ rest ≡ u ++ v → IsLexeme u → length u ≤ length w
  pub no_comment : (v : Bytes) → w ++ rest ≡ 40 ∷ 42 ∷ v → ⊥

-- a letter or a digit comes next
abbrev pub IsJoined : Bytes → Type 0
IsJoined [] = ⊥
IsJoined (b ∷ bs) = is_ascii_alphanumeric b ≡ true

-- the token of a kind that begins at an offset and has the given length
abbrev pub token_at : Kind → ℕ → ℕ → Token
token_at kind from len = record { kind = kind; span = record { from = from; to = from + len } }

-- The tokens of the bytes from an offset on: separators and tokens in turn. Names, word-symbols and numbers don't
-- touch.
pub data TokensFrom : ℕ → Bytes → List Token → Type 0 where
  nothing : {n : ℕ} → TokensFrom n [] []
  separator : {n : ℕ} (s rest : Bytes) {ts : List Token} → IsSeparator s → TokensFrom (n + length s) rest ts
      → TokensFrom n (s ++ rest) ts
  token : {n : ℕ} {kind : Kind} {ts : List Token} (w rest : Bytes) → IsLongest w rest → IsOfKind w kind
      → (IsWord w ⊎ IsDigits w → IsJoined rest → ⊥)
      → TokensFrom (n + length w) rest ts → TokensFrom n (w ++ rest) (token_at kind n (length w) ∷ ts)

-- the tokens of a text
abbrev pub IsTokens : Bytes → List Token → Type 0
IsTokens text ts = TokensFrom 0 text ts
