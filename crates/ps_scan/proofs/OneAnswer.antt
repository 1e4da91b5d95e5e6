-- Each text has exactly one outcome: a list of tokens, or a first fault.
use Rattle.std.proofs.Common.{◌≡◌, ℕ, zero, suc, ◌+◌, ◌<◌, ◌≤◌, List, [], ◌∷◌, ◌++◌, length, drop, Ok, Err, refl, sym}
use Rattle.std.proofs.Common.{ap, ◌∙◌, arith, length-append, length-drop}
use Rattle.std.proofs.lemmas.List.{drop_at}
use Rattle.ps_text.specs.declared.Span.{Span}
use Rattle.ps_scan.specs.declared.lexeme.Lexeme.{Lexeme}
use Rattle.ps_scan.specs.declared.refusal.ScanFault.{ScanFault}
use Rattle.ps_scan.specs.declared.token.Token.{Token}
use Rattle.ps_scan.specs.Faults.{span_at, RefusedFrom, here, behind_separator, behind_token, Scanned, Tokens, Refused}
use Rattle.ps_scan.specs.Faults.{IsScanOf}
use Rattle.ps_scan.specs.Laws.{EachTextIsScanned}
use Rattle.ps_scan.specs.Lexis.{IsTokens, TokensFrom, nothing, separator, token}
use Rattle.ps_scan.specs.Scanner.{Finding, front, separator_of, token_of}
use Rattle.ps_scan.specs.Tables.{Bytes}
use Rattle.ps_scan.proofs.Fronts.{Front, separates, stands, IsFound}
use Rattle.ps_scan.proofs.FrontSteps.{front_sound, separator_complete, token_complete, ends_by_tokens}
use Rattle.ps_scan.proofs.FrontSteps.{ends_where_closed, fault_complete}
use Rattle.ps_scan.proofs.Places.{separator_some, token_some, fault_within}
use Rattle.ps_scan.proofs.Scans.{tokens_of, IsScanFrom, behind, step_by}

-- what is found at the front, and the outcome of the rest
abbrev after : ℕ → Bytes → (ℕ → Bytes → Scanned) → Finding → Scanned
after n bs rest (Ok l) = behind (tokens_of n l) (rest (n + l.length) (drop l.length bs))
after n bs rest (Err f) = Refused f.fault (span_at (n + f.ahead) f.length)

-- the outcome of bytes no longer than the first number
scan_from : (most : ℕ) → ℕ → Bytes → Scanned
scan_from zero n bs = Tokens []
scan_from (suc most) n [] = Tokens []
scan_from (suc most) n (b ∷ bs) = after n (b ∷ bs) (scan_from most) (front (b ∷ bs))

-- ---- it is what the definition says
front_some : {bs : Bytes} {l : Lexeme} → Front bs l → 0 < l.length
front_some (separates s rest is) = separator_some s is
front_some (stands {kind = kind} w rest longest is apart closed) = token_some w kind is

found_sound : (most n : ℕ) (bs : Bytes) (found : Finding) → length bs ≤ suc most → IsFound bs found
    → ((m : ℕ) (rest : Bytes) → length rest ≤ most → IsScanFrom m rest (scan_from most m rest))
    → IsScanFrom n bs (after n bs (scan_from most) found)
found_sound most n bs (Ok l) fits is later =
    let less : length (drop l.length bs) ≤ most = omega (arith, front_some is, length-drop l.length bs) in
    step_by n bs l _ is (later (n + l.length) (drop l.length bs) less)
found_sound most n bs (Err f) fits is later = here is

sound : (most n : ℕ) (bs : Bytes) → length bs ≤ most → IsScanFrom n bs (scan_from most n bs)
unfolding scan_from
sound zero n [] fits = nothing
sound zero n (b ∷ bs) fits = absurd (omega arith)
sound (suc most) n [] fits = nothing
sound (suc most) n (b ∷ bs) fits =
    found_sound most n (b ∷ bs) (front (b ∷ bs)) fits (front_sound b bs) (λ m rest less. sound most m rest less)

-- ---- and nothing else is
found_step : (most n : ℕ) (bs : Bytes) (found : Finding) → 0 < length bs → front bs ≡ found
    → scan_from (suc most) n bs ≡ after n bs (scan_from most) found
unfolding scan_from
found_step most n [] found some e = absurd (omega arith)
found_step most n (b ∷ bs) found some e = ap (after n (b ∷ bs) (scan_from most)) e

-- after a lexeme the rest has the outcome
lexeme_step : (most n : ℕ) (w rest : Bytes) (l : Lexeme) (answer : Scanned) → 0 < length w → l.length ≡ length w
    → front (w ++ rest) ≡ Ok l
    → scan_from most (n + length w) rest ≡ answer → scan_from (suc most) n (w ++ rest) ≡ behind (tokens_of n l) answer
lexeme_step most n w rest l answer some len found later =
    found_step most n (w ++ rest) (Ok l) (omega (arith, some, length-append w rest)) found
    ∙ ap (behind (tokens_of n l)) (ap (λ m. scan_from most (n + m) (drop m (w ++ rest))) len
    ∙ ap (scan_from most (n + length w)) (drop_at w rest (length w) refl) ∙ later)

tokens_are : (most : ℕ) {n : ℕ} {bs : Bytes} {ts : List Token} → TokensFrom n bs ts → length bs ≤ most
    → scan_from most n bs ≡ Tokens ts
unfolding scan_from
tokens_are zero nothing fits = refl
tokens_are (suc most) nothing fits = refl
tokens_are zero (separator s rest is later) fits =
    absurd (omega (arith, fits, separator_some s is, length-append s rest))
tokens_are (suc most) {n = n} (separator s rest {ts = ts} is later) fits =
    lexeme_step most n s rest (separator_of (length s)) (Tokens ts) (separator_some s is) refl
    (separator_complete s rest is)
    (tokens_are most later (omega (arith, fits, separator_some s is, length-append s rest)))
tokens_are zero (token {kind = kind} w rest longest is apart later) fits =
    absurd (omega (arith, fits, token_some w kind is, length-append w rest))
tokens_are (suc most) {n = n} (token {kind = kind} {ts = ts} w rest longest is apart later) fits =
    lexeme_step most n w rest (token_of (length w) kind) (Tokens ts) (token_some w kind is) refl
    (token_complete w rest longest is apart (ends_by_tokens w rest ts longest later))
    (tokens_are most later (omega (arith, fits, token_some w kind is, length-append w rest)))

fault_is : (most : ℕ) {n : ℕ} {bs : Bytes} {why : ScanFault} {place : Span} → RefusedFrom n bs why place
    → length bs ≤ most → scan_from most n bs ≡ Refused why place
fault_is zero (here is_fault) fits = let f = fault_within is_fault in absurd (omega (arith, fits, f.0, f.1))
fault_is (suc most) {n = n} {bs = bs} (here is_fault) fits =
    let f = fault_within is_fault in found_step most n bs _ (omega (arith, f.0, f.1)) (fault_complete is_fault)
fault_is zero (behind_separator s rest is later) fits =
    absurd (omega (arith, fits, separator_some s is, length-append s rest))
fault_is (suc most) {n = n} {why = why} {place = place} (behind_separator s rest is later) fits =
    lexeme_step most n s rest (separator_of (length s)) (Refused why place) (separator_some s is) refl
    (separator_complete s rest is)
    (fault_is most later (omega (arith, fits, separator_some s is, length-append s rest)))
fault_is zero (behind_token {kind = kind} w rest longest is apart closed later) fits =
    absurd (omega (arith, fits, token_some w kind is, length-append w rest))
fault_is (suc most) {n = n} {why = why} {place = place}
    (behind_token {kind = kind} w rest longest is apart closed later) fits =
    lexeme_step most n w rest (token_of (length w) kind) (Refused why place) (token_some w kind is) refl
    (token_complete w rest longest is apart (ends_where_closed w rest longest closed))
    (fault_is most later (omega (arith, fits, token_some w kind is, length-append w rest)))

answer_is : (text : Bytes) (answer : Scanned) → IsScanOf text answer → scan_from (length text) 0 text ≡ answer
answer_is text (Tokens ts) is = tokens_are (length text) is (omega arith)
answer_is text (Refused why place) is = fault_is (length text) is (omega arith)

pub each_text_is_scanned : EachTextIsScanned
each_text_is_scanned text =
    let answer = scan_from (length text) 0 text in
    (answer, whole answer (sound (length text) 0 text (omega arith)), λ other is. sym (answer_is text other is))
  where
    whole : (answer : Scanned) → IsScanFrom 0 text answer → IsScanOf text answer
    whole (Tokens ts) is = is
    whole (Refused why place) is = is

-- ---- so

pub tokens_only : (text : Bytes) (ts us : List Token) → IsTokens text ts → IsTokens text us → us ≡ ts
tokens_only text ts us a b = let same : Tokens us ≡ Tokens ts = sym (answer_is text (Tokens us) b)
    ∙ answer_is text (Tokens ts) a in cc

pub refused_has_none : (text : Bytes) (why : ScanFault) (place : Span) → RefusedFrom 0 text why place
    → (ts : List Token) → IsTokens text ts → ⊥
refused_has_none text why place a ts b = let no : Tokens ts ≡ Refused why place = sym (answer_is text (Tokens ts) b)
    ∙ answer_is text (Refused why place) a in cc
