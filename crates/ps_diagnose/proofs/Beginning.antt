-- What an answer of the parser tells of the beginnings of programs.
use Rattle.std.proofs.Common.{min, ◌≡◌, ℕ, ◌<◌, ◌+◌, ◌≤◌, List, [], ◌∷◌, ◌++◌, length, take, drop, sym, ap, ◌∙◌, subst}
use Rattle.std.proofs.Common.{arith, append_assoc, append-nil, length-drop}
use Rattle.std.proofs.lemmas.List.{take-append-drop, take_all}
use Rattle.ps_syntax.specs.declared.program.Program.{Program}
use Rattle.ps_parse_grammar.specs.Symbols.{Tokens}
use Rattle.ps_parse_grammar.specs.Programs.{Derives}
use Rattle.ps_parse_grammar.specs.Forward.{is_forward}
use Rattle.ps_parse_grammar.specs.Trees.{IsTreeOf}
use Rattle.ps_parse.specs.Begun.{Begins}
use Rattle.ps_text.specs.declared.Span.{Span}
use Rattle.ps_parse.specs.Untaken.{IsFault, IsRefusedAt, IsToldAt, IsTold, IsTooHigh}
use Rattle.ps_parse.specs.declared.error.ParseFault.{ParseFault}
use Rattle.ps_diagnose.specs.Begun.{LieTooDeep}
use Rattle.ps_parse.specs.declared.error.ParseRefusal.{ParseRefusal}
use Rattle.ps_parse.specs.declared.error.ParseRefusal.TheVariants.{Faulty}
use Rattle.ps_parse.specs.declared.error.ParseFault.TheVariants.{NotAProgram, TooDeep, NotInProfile}

-- what is a program begins one
pub tree_begins : (text : List ℕ) (ts : Tokens) (p : Program) → IsTreeOf text ts p → Begins text ts
tree_begins text ts p t = (
  [],
  p,
  subst (λ (q : Tokens). Derives (is_forward text) q p) (sym (append-nil ts)) (500, t.derives),
)

-- the first tokens of what begins a program begin one
first_begin : (text : List ℕ) (xs ys : Tokens) → Begins text (xs ++ ys) → Begins text xs
first_begin text xs ys b = (
  ys ++ b.0,
  b.1,
  subst (λ (q : Tokens). Derives (is_forward text) q b.1)
      (append_assoc xs ys b.0) b.2,
)

-- the token by its number, which tokens that a number counts have
pub refused_there : (text : List ℕ) (ts : Tokens) (fault : ParseFault) (line token : ℕ) (place : Span)
    → length ts < 4294967296 → IsToldAt text ts fault line token place → IsRefusedAt text ts token fault
refused_there text ts fault line token place few told =
    let numbered = told.numbered in
    let within = told.refused.within in
    let same : told.at ≡ token = omega (arith, numbered, within, few) in
    subst (λ n. IsRefusedAt text ts n fault) same told.refused

pub told_there : (text : List ℕ) (ts : Tokens) (refusal : ParseRefusal) (fault : ParseFault) (line token from to : ℕ)
    → refusal ≡ Faulty fault line token from to → length ts < 4294967296 → IsTold text ts refusal
    → IsRefusedAt text ts token fault
told_there text ts refusal fault line token from to is few told =
    refused_there text ts fault line token (record { from = from; to = to }) few (subst (λ r. IsTold text ts r) is told)

-- ---- what is told at the end, and at the last token

module _ (text : List ℕ) (ts : Tokens) (at : ℕ) (fault : ParseFault) (refused : IsRefusedAt text ts at fault) where
  pub begun_at_end : length ts ≤ at → Begins text ts
  begun_at_end le = subst (Begins text) (take_all at ts le) refused.begun

  -- with the token, those before it begin no program
  not_too_high : (behind : Tokens) → (IsTooHigh text (take at ts) behind → ⊥) → take at ts ++ behind ≡ ts
      → 0 < length behind → Begins text ts → ⊥
  not_too_high [] none whole some b = absurd (omega arith)
  not_too_high (t ∷ behind) none whole some b =
      none (first_begin text (take at ts ++ t ∷ []) behind
      (subst (Begins text) (sym whole ∙ sym (append_assoc (take at ts) (t ∷ []) behind)) b))

  left : at < length ts → 0 < length (drop at ts)
  left lt = let l = length-drop at ts in omega (arith, l, lt)

  pub not_begun : (IsTooHigh text (take at ts) (drop at ts) → ⊥) → at < length ts → Begins text ts → ⊥
  not_begun none lt = not_too_high (drop at ts) none (take-append-drop at ts) (left lt)

  -- the one token from there on
  one_left : (behind : Tokens) → IsTooHigh text (take at ts) behind → take at ts ++ behind ≡ ts → length behind ≡ 1
      → Begins text ts
  one_left [] high whole one = absurd high
  one_left (t ∷ []) high whole one = subst (Begins text) whole high
  one_left (t ∷ u ∷ behind) high whole one = absurd (omega (arith, one))

  pub begun_at_last : IsTooHigh text (take at ts) (drop at ts) → at + 1 ≡ length ts → Begins text ts
  begun_at_last high last = one_left (drop at ts) high (take-append-drop at ts)
      (let l = length-drop at ts in omega (arith, l, last))

  -- a fault that is told of one of the tokens, but of one that is too high
  pub not_a_program : fault ≡ NotAProgram → at < length ts → Begins text ts → ⊥
  not_a_program is lt = not_begun ((subst (λ f. IsFault text (take at ts) (drop at ts) f) is refused.is_fault).0) lt

  pub not_in_profile : fault ≡ NotInProfile → at < length ts → Begins text ts → ⊥
  not_in_profile is lt = not_begun ((subst (λ f. IsFault text (take at ts) (drop at ts) f) is refused.is_fault).0) lt

  pub too_deep : fault ≡ TooDeep → at + 1 ≡ length ts → Begins text ts
  too_deep is last = begun_at_last (subst (λ f. IsFault text (take at ts) (drop at ts) f) is refused.is_fault) last

  pub deep_before : fault ≡ TooDeep → at + 1 < length ts → LieTooDeep text ts
  deep_before is lt = (at, lt, subst (IsRefusedAt text ts at) is refused)
