-- The places of a text's tokens.
use Rattle.std.proofs.Common.{◌≡◌, ℕ, zero, suc, ◌+◌, ◌<◌, ◌≤◌, List, [], ◌∷◌, ◌++◌, length, refl, ap, arith}
use Rattle.std.proofs.Common.{length-append, subst}
use Rattle.std.specs.List.{All}
use Rattle.ps_text.specs.declared.Span.{Span}
use Rattle.ps_scan.specs.declared.refusal.ScanFault.{ScanFault}
use Rattle.ps_scan.specs.declared.token.Kind.{Kind}
use Rattle.ps_scan.specs.declared.token.Token.{Token}
use Rattle.ps_scan.specs.Faults.{IsOpening, brace_opens, star_opens, IsFault, begins_nothing, open_comment}
use Rattle.ps_scan.specs.Faults.{open_string, empty_string, touching, too_large, real_literal, RefusedFrom, here}
use Rattle.ps_scan.specs.Faults.{behind_separator, behind_token}
use Rattle.ps_scan.specs.Laws.{TokensStandInOrder, FaultsStandWithin}
use Rattle.ps_scan.specs.Lexemes.{IsOfKind, of_word, of_number, of_string, of_symbol}
use Rattle.ps_scan.specs.Lexis.{IsTokens, TokensFrom, nothing, separator, token}
use Rattle.ps_scan.specs.Separators.{IsSeparator, blank, braced, starred}
use Rattle.ps_scan.specs.Tables.{Bytes}
use Rattle.ps_scan.specs.Spans.{IsWithin, AreOrdered}
use Rattle.ps_scan.proofs.Reals.{real_parts}
use Rattle.ps_scan.proofs.Symbols.{symbol_short}

pub separator_some : (s : Bytes) → IsSeparator s → 0 < length s
separator_some s (blank is) = omega arith
separator_some s (braced c) = omega arith
separator_some s (starred c) = omega arith

pub token_some : (w : Bytes) (kind : Kind) → IsOfKind w kind → 0 < length w
token_some [] kind (of_word is _) = absurd is
token_some (b ∷ bs) kind (of_word is _) = omega arith
token_some [] kind (of_number is _) = absurd is
token_some (b ∷ bs) kind (of_number is _) = omega arith
token_some w kind (of_string is some) = omega arith
token_some [] kind (of_symbol found) = let short = symbol_short [] kind found in cc
token_some (b ∷ bs) kind (of_symbol found) = omega arith

-- no bytes have no tokens
pub no_tokens : {n : ℕ} {bs : Bytes} {ts : List Token} → TokensFrom n bs ts → length bs ≡ 0 → ts ≡ []
no_tokens nothing e = refl
no_tokens (separator s rest is later) e = absurd (omega (arith, separator_some s is, length-append s rest))
no_tokens (token {kind = kind} w rest longest is apart later) e =
    absurd (omega (arith, token_some w kind is, length-append w rest))

ordered_from : {n : ℕ} {bs : Bytes} {ts : List Token} (low : ℕ) → TokensFrom n bs ts → low ≤ n
    → AreOrdered low (n + length bs) ts
ordered_from low nothing le = omega arith
ordered_from {n = n} low (separator s rest {ts = ts} is later) le =
    let high : n + length s + length rest ≡ n + length (s ++ rest) = omega (arith, length-append s rest) in
    subst (λ z. AreOrdered low z ts) high (ordered_from low later (omega arith))
ordered_from {n = n} low (token {kind = kind} {ts = ts} w rest longest is apart later) le =
    let high : n + length w + length rest ≡ n + length (w ++ rest) = omega (arith, length-append w rest) in (
      le,
      omega (arith, token_some w kind is),
      subst (λ z. AreOrdered (n + length w) z ts) high
          (ordered_from (n + length w) later (omega arith)),
    )

pub tokens_ordered : (text : Bytes) (ts : List Token) → IsTokens text ts → AreOrdered 0 (length text) ts
tokens_ordered text ts tokens =
    let high : 0 + length text ≡ length text = omega arith in subst (λ z. AreOrdered 0 z ts) high
    (ordered_from 0 tokens (omega arith))

ordered_rises : (low high : ℕ) (ts : List Token) → AreOrdered low high ts → low ≤ high
ordered_rises low high [] ordered = ordered
ordered_rises low high (t ∷ ts) ordered = omega (arith, ordered.0, ordered.1, ordered_rises t.span.to high ts ordered.2)

pub ordered_within : (low high : ℕ) (ts : List Token) → AreOrdered low high ts → All (IsWithin high) ts
ordered_within low high [] ordered k d inside = absurd (omega arith)
ordered_within low high (t ∷ ts) ordered zero d inside = (ordered.1, ordered_rises t.span.to high ts ordered.2)
ordered_within low high (t ∷ ts) ordered (suc k) d inside = ordered_within t.span.to high ts ordered.2 k d (omega arith)

-- each token of a text lies in it
pub tokens_within : (text : Bytes) (ts : List Token) → IsTokens text ts → All (IsWithin (length text)) ts
tokens_within text ts tokens = ordered_within 0 (length text) ts (tokens_ordered text ts tokens)

-- ---- faults

opening_some : (w : Bytes) → IsOpening w → 0 < length w
opening_some w brace_opens = omega arith
opening_some w star_opens = omega arith

-- the place of a fault lies in the bytes that it begins, and has at least one byte
pub fault_within : {why : ScanFault} {ahead len : ℕ} {bs : Bytes} → IsFault bs why ahead len
    → (0 < len) × (ahead + len ≤ length bs)
fault_within (begins_nothing rest never) = (omega arith, omega arith)
fault_within (open_comment w rest opens never) = (opening_some w opens, omega (arith, length-append w rest))
fault_within (open_string rest is_open) = (omega arith, omega arith)
fault_within (empty_string rest longest closed) = (omega arith, omega arith)
fault_within (touching w [] rest longest d second is_word) = absurd is_word
fault_within (touching w (c ∷ cs) rest longest d second is_word) =
    (omega arith, omega (arith, length-append w ((c ∷ cs) ++ rest), length-append (c ∷ cs) rest))
fault_within (too_large [] rest longest d apart large) = absurd d
fault_within (too_large (b ∷ w) rest longest d apart large) = (omega arith, omega (arith, length-append (b ∷ w) rest))
fault_within (real_literal w rest longest r) =
    let p = real_parts w rest r in
    let some : 0 < length w = omega (arith, ap length p.split, length-append p.before p.tail, p.some) in
    (some, omega (arith, length-append w rest))

refused_within : {n : ℕ} {bs : Bytes} {why : ScanFault} {place : Span} → RefusedFrom n bs why place
    → (place.from < place.to) × (place.to ≤ n + length bs)
refused_within (here is_fault) = let f = fault_within is_fault in (omega (arith, f.0), omega (arith, f.1))
refused_within (behind_separator s rest is later) =
    let f = refused_within later in (f.0, omega (arith, f.1, length-append s rest))
refused_within (behind_token w rest longest is apart closed later) =
    let f = refused_within later in (f.0, omega (arith, f.1, length-append w rest))

pub faults_stand_within : FaultsStandWithin
faults_stand_within text why place refused = let f = refused_within refused in (f.0, omega (arith, f.1))

pub tokens_stand_in_order : TokensStandInOrder
tokens_stand_in_order text ts tokens = (tokens_ordered text ts tokens, tokens_within text ts tokens)
