-- Tokens of one kind that come next.
use Rattle.std.proofs.Common.{◌≡◌, ℕ, zero, suc, ◌+◌, ◌<◌, true, false, [], ◌∷◌, length, drop, get_or, refl, ◌∙◌, arith}
use Rattle.std.proofs.Common.{below_more}
use Rattle.ps_scan.specs.declared.token.Kind.{Kind}
use Rattle.ps_scan.specs.declared.token.Token.{Token}
use Rattle.ps_scan.specs.Kinds.{same}
use Rattle.ps_parse_grammar.specs.Symbols.{Tokens}
use Rattle.ps_parse.specs.Steps.{sees}

seen_at : (kind : Kind) (ts : Tokens) (n : ℕ) (t : Token) → n < length ts → sees kind (drop n ts)
    ≡ same (get_or ts n t).kind kind
seen_at kind [] n t below = absurd (omega arith)
seen_at kind (u ∷ ts) zero t below = refl
seen_at kind (u ∷ ts) (suc n) t below = seen_at kind ts n t (omega arith)

pub run_more : (kind : Kind) (ts : Tokens) (n : ℕ) (t : Token) → n < length ts → same (get_or ts n t).kind kind ≡ true
    → ((i : ℕ) → i < n → sees kind (drop i ts) ≡ true) → (i : ℕ) → i < n + 1 → sees kind (drop i ts) ≡ true
run_more kind ts n t below is run = below_more _ _ run (seen_at kind ts n t below ∙ is)

pub run_ends : (kind : Kind) (ts : Tokens) (n : ℕ) (t : Token) → n < length ts → same (get_or ts n t).kind kind ≡ false
    → sees kind (drop n ts) ≡ false
run_ends kind ts n t below is = seen_at kind ts n t below ∙ is

pub none_left : (kind : Kind) (ts : Tokens) → sees kind (drop (length ts) ts) ≡ false
none_left kind [] = refl
none_left kind (t ∷ ts) = none_left kind ts
