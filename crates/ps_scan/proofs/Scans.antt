-- The scanner's loop: the tokens so far, followed by the outcome of the bytes that are left, are the outcome of the
-- text.
use Rattle.std.proofs.Common.{◌≡◌, ℕ, ◌+◌, ◌<◌, ◌≤◌, List, [], ◌∷◌, ◌++◌, length, drop, Option, Some, None, Ok, Err}
use Rattle.std.proofs.Common.{refl, sym, ap, subst, arith, append_assoc, append-nil, drop-cons}
use Rattle.std.proofs.lemmas.List.{drop_at, drop-drop, drop_all}
use Rattle.ps_scan.specs.declared.lexeme.FaultAhead.{FaultAhead}
use Rattle.ps_scan.specs.declared.lexeme.Lexeme.{Lexeme}
use Rattle.ps_scan.specs.declared.token.Kind.{Kind}
use Rattle.ps_scan.specs.declared.token.Token.{Token}
use Rattle.ps_scan.specs.Faults.{span_at, RefusedFrom, here, behind_separator, behind_token, Scanned, Tokens, Refused}
use Rattle.ps_scan.specs.Lexis.{IsTokens, TokensFrom, nothing, separator, token, token_at}
use Rattle.ps_scan.specs.Scanner.{front}
use Rattle.ps_scan.specs.Tables.{Bytes}
use Rattle.ps_scan.proofs.Fronts.{Front, separates, stands, IsFound}
use Rattle.ps_scan.proofs.FrontSteps.{front_sound}

-- the token that a lexeme at an offset is, if it is one
abbrev pub token_by : Option Kind → ℕ → ℕ → List Token
token_by None from len = []
token_by (Some kind) from len = token_at kind from len ∷ []

abbrev pub tokens_of : ℕ → Lexeme → List Token
tokens_of from l = token_by l.kind from l.length

-- the outcome of the bytes from an offset on
abbrev pub IsScanFrom : ℕ → Bytes → Scanned → Type 0
IsScanFrom n bs (Tokens ts) = TokensFrom n bs ts
IsScanFrom n bs (Refused why place) = RefusedFrom n bs why place

-- tokens before the outcome of bytes
abbrev pub behind : List Token → Scanned → Scanned
behind ts (Tokens us) = Tokens (ts ++ us)
behind ts (Refused why place) = Refused why place

pub step_by : (n : ℕ) (bs : Bytes) (l : Lexeme) (answer : Scanned) → Front bs l
    → IsScanFrom (n + l.length) (drop l.length bs) answer → IsScanFrom n bs (behind (tokens_of n l) answer)
step_by n bs l (Tokens ts) (separates s rest is) later =
    separator s rest is (subst (λ z. TokensFrom (n + length s) z ts) (drop_at s rest (length s) refl) later)
step_by n bs l (Tokens ts) (stands w rest longest kind apart closed) later =
    token w rest longest kind apart (subst (λ z. TokensFrom (n + length w) z ts) (drop_at w rest (length w) refl) later)
step_by n bs l (Refused why place) (separates s rest is) later =
    let left = subst (λ z. RefusedFrom (n + length s) z why place) (drop_at s rest (length s) refl) later in
    behind_separator s rest is left
step_by n bs l (Refused why place) (stands w rest longest kind apart closed) later =
    let left = subst (λ z. RefusedFrom (n + length w) z why place) (drop_at w rest (length w) refl) later in
    behind_token w rest longest kind apart closed left

-- the tokens found are those of the text's bytes before an offset, at which a token, a separator or a fault begins
pub record IsScanned (text : Bytes) (at : ℕ) (found : List Token) : Type 0 where
  pub goes_on : (answer : Scanned) → IsScanFrom at (drop at text) answer → IsScanFrom 0 text (behind found answer)

pub scan_starts : (text : Bytes) → IsScanned text 0 []
scan_starts text = record { goes_on = λ answer is. same answer is }
  where
    same : (answer : Scanned) → IsScanFrom 0 text answer → IsScanFrom 0 text (behind [] answer)
    same (Tokens ts) is = is
    same (Refused why place) is = is

some_left : (text : Bytes) (at : ℕ) → at < length text → 0 < length (drop at text)
some_left text at inside = rw (drop-cons text at 0 inside) (omega arith)

found_at : (text : Bytes) (at : ℕ) (bs : Bytes) → at < length text → drop at text ≡ bs → IsFound bs (front bs)
found_at text at [] inside e =
    let some = some_left text at inside in let none = ap length e in absurd (omega (arith, some, none))
found_at text at (b ∷ bs) inside e = front_sound b bs

pub scan_goes_on : (text : Bytes) (at : ℕ) (found : List Token) (l : Lexeme) → at < length text
    → front (drop at text) ≡ Ok l → IsScanned text at found
    → IsScanned text (at + l.length) (found ++ tokens_of at l)
scan_goes_on text at found l inside is scanned = record {
  goes_on = λ answer later.
      (let front' = found_at text at (drop at text) inside refl in
      let here' : Front (drop at text) l = subst (λ z. IsFound (drop at text) z) is front' in
      let left = subst (λ z. IsScanFrom (at + l.length) z answer) (sym (drop-drop l.length at text)) later in
      joined answer (scanned.goes_on _ (step_by at (drop at text) l answer here' left)));
}
  where
    joined : (answer : Scanned) → IsScanFrom 0 text (behind found (behind (tokens_of at l) answer))
        → IsScanFrom 0 text (behind (found ++ tokens_of at l) answer)
    joined (Tokens ts) is = subst (λ z. IsTokens text z) (sym (append_assoc found (tokens_of at l) ts)) is
    joined (Refused why place) is = is

pub scan_fails : (text : Bytes) (at : ℕ) (found : List Token) (f : FaultAhead) → at < length text
    → front (drop at text) ≡ Err f → IsScanned text at found
    → RefusedFrom 0 text f.fault (span_at (at + f.ahead) f.length)
scan_fails text at found f inside is scanned =
    let fault' = subst (λ z. IsFound (drop at text) z) is (found_at text at (drop at text) inside refl) in
    scanned.goes_on (Refused f.fault (span_at (at + f.ahead) f.length)) (here fault')

pub scan_ends : (text : Bytes) (at : ℕ) (found : List Token) → length text ≤ at → IsScanned text at found
    → IsTokens text found
scan_ends text at found past scanned =
    let none = subst (λ z. TokensFrom at z []) (sym (drop_all at text past)) nothing in
    subst (λ z. IsTokens text z) (append-nil found) (scanned.goes_on (Tokens []) none)
