-- A text has no more tokens than bytes.
use Rattle.std.proofs.Common.{◌≡◌, ℕ, ◌<◌, ◌≤◌, List, [], ◌∷◌, length, Some, None, length-append, refl, sym, ◌∙◌, arith}
use Rattle.ps_scan.specs.declared.token.Kind.{Kind}
use Rattle.ps_scan.specs.declared.token.Token.{Token}
use Rattle.ps_scan.specs.Tables.{Bytes, symbol_kind}
use Rattle.ps_scan.specs.Lexemes.{IsOfKind, of_word, of_number, of_string, of_symbol}
use Rattle.ps_scan.specs.Lexis.{TokensFrom, nothing, separator, token}

no_symbol : symbol_kind [] ≡ None
unfolding symbol_kind
no_symbol = refl

-- a token has at least one byte
some_bytes : (w : Bytes) (kind : Kind) → IsOfKind w kind → 0 < length w
some_bytes [] kind (of_word word e) = absurd word
some_bytes [] kind (of_number digits small) = absurd digits
some_bytes [] kind (of_string string long) = omega (arith, long)
some_bytes [] kind (of_symbol e) = let both : None ≡ Some kind = sym no_symbol ∙ e in cc both
some_bytes (b ∷ w) kind h = omega (arith)

pub tokens_within : (n : ℕ) (bytes : Bytes) (ts : List Token) → TokensFrom n bytes ts → length ts ≤ length bytes
tokens_within n [] [] nothing = omega (arith)
tokens_within n bytes ts (separator s rest is_separator more) =
    let behind = tokens_within _ rest ts more in omega (arith, behind, length-append s rest)
tokens_within n bytes ts (token w rest longest of_kind apart more) =
    let behind = tokens_within _ rest _ more in omega (arith, behind, some_bytes w _ of_kind, length-append w rest)
