-- When a parser reads a symbol of the grammar exactly, and what its first steps show.
use Rattle.std.proofs.Common.{◌≡◌, ◌<◌, ◌≤◌, Bool, true, false, [], ◌∷◌, length, Option, Some, None, Ok, Err, ◌⊎◌, inl}
use Rattle.std.proofs.Common.{inr, refl, sym, ap, ◌∙◌, subst, if◌then◌else◌}
use Rattle.std.proofs.lemmas.Bool.{cases_Bool}
use Rattle.ps_text.specs.declared.Span.{Span}
use Rattle.ps_scan.specs.declared.token.Kind.{Kind}
use Rattle.ps_scan.specs.declared.token.Token.{Token}
use Rattle.ps_scan.specs.Kinds.{same}
use Rattle.ps_scan.specs.contracts.token.Kind.{the_type}
use denote.Enum.Bare.{same_true, true_same}
use Rattle.ps_parse_grammar.specs.Symbols.{Tokens, Symbol, nothing, token}
use Rattle.ps_parse.specs.Steps.{Outcome, Parser, and_then, sees, after, eat, accept, look, expect, refuse}
use Rattle.ps_parse.specs.ReadExpressions.{eat_operator}

-- A parser reads a symbol exactly, where what comes after it satisfies `ends`.
pub record Exact {A : Type 0} (ends : Tokens → Type 0) (S : Symbol A) (p : Parser A) : Type 0 where
  pub sound : (ts : Tokens) (x : A) (r : Tokens) → p ts ≡ Ok (x, r) → S x ts r
  pub complete : (x : A) (ts r : Tokens) → S x ts r → ends r → p ts ≡ Ok (x, r)
  pub shrinks : (x : A) (ts r : Tokens) → S x ts r → length r ≤ length ts

-- the symbol, or nothing
abbrev pub Perhaps : {A : Type 0} → Symbol A → Symbol (Option A)
Perhaps S None ts r = ts ≡ r
Perhaps S (Some x) ts r = S x ts r

-- the same for a parser that returns none, and takes nothing, if the symbol doesn't come next
pub record ExactOption {A : Type 0} (inner outer : Tokens → Type 0) (S : Symbol A) (p : Parser (Option A))
    : Type 0 where
  pub sound : (ts : Tokens) (o : Option A) (r : Tokens) → p ts ≡ Ok (o, r) → Perhaps S o ts r
  pub complete : (x : A) (ts r : Tokens) → S x ts r → inner r → p ts ≡ Ok (Some x, r)
  pub absent : (ts : Tokens) → outer ts → p ts ≡ Ok (None, ts)
  pub starts : (x : A) (ts r : Tokens) → S x ts r → inner ts
  pub weaker : (ts : Tokens) → outer ts → inner ts
  pub shrinks : (x : A) (ts r : Tokens) → S x ts r → length r < length ts

-- ---- steps

-- what a parser in two steps read
pub both_steps : {A B : Type 0} (o : Outcome A) (f : A → Parser B) (y : B) (r : Tokens) → and_then o f ≡ Ok (y, r)
    → (x : A) × (m : Tokens) × (o ≡ Ok (x, m)) × (f x m ≡ Ok (y, r))
both_steps (Err n) f y r e = cc
both_steps (Ok p) f y r e = (p.0, p.1, refl, e)

-- the same, where what the first step read has a name of its own
pub in_steps : {A B C : Type 0} (o : Outcome A) (f : A → Parser B) (y : B) (r : Tokens) → and_then o f ≡ Ok (y, r)
    → ((x : A) (m : Tokens) → o ≡ Ok (x, m) → f x m ≡ Ok (y, r) → C) → C
in_steps (Err n) f y r e go = cc
in_steps (Ok p) f y r e go = go p.0 p.1 refl e

pub first_part : {A : Type 0} (x y : A) (m r : Tokens) → ◌≡◌ {A = Outcome A} (Ok (x, m)) (Ok (y, r)) → x ≡ y
first_part {A} x y m r e = ap (λ (o : Outcome A). elim o [ Err n ↦ x | Ok q ↦ q.0 ]) e

pub second_part : {A : Type 0} (x y : A) (m r : Tokens) → ◌≡◌ {A = Outcome A} (Ok (x, m)) (Ok (y, r)) → m ≡ r
second_part {A} x y m r e = ap (λ (o : Outcome A). elim o [ Err n ↦ m | Ok q ↦ q.1 ]) e

-- what was read is what the last step returns
pub at_last : {A : Type 0} (S : Symbol A) (ts : Tokens) (x y : A) (m r : Tokens) → ◌≡◌ {A = Outcome A} (Ok (x, m))
    (Ok (y, r)) → S x ts m → S y ts r
at_last S ts x y m r e d = subst (λ z. S z ts r) (first_part x y m r e)
    (subst (λ q. S x ts q) (second_part x y m r e) d)

pub same_is : (a b : Kind) → same a b ≡ true → a ≡ b
unfolding same
same_is a b e = same_true the_type tt a b e

pub same_self : (a : Kind) → same a a ≡ true
unfolding same
same_self a = true_same the_type a a refl

expect_here : (k : Kind) (t : Token) (ts : Tokens) (b : Bool) → same t.kind k ≡ b → (at : Span) (r : Tokens)
    → ◌≡◌ {A = Outcome Span} (if b then Ok (t.span, ts) else Err (length (t ∷ ts))) (Ok (at, r)) → t ∷ ts ≡ token k at
    ∷ r
expect_here k t ts true e at r h =
    let kinds = same_is t.kind k e in let spans = first_part t.span at ts r h
    in let rests = second_part t.span at ts r h in
    ap (λ (q : Kind). token q t.span ∷ ts) kinds ∙ ap (λ (q : Span). token k q ∷ ts) spans
    ∙ ap (λ (q : Tokens). token k at ∷ q) rests
expect_here k t ts false e at r h = cc

pub expect_sound : (k : Kind) (ts : Tokens) (at : Span) (r : Tokens) → expect k ts ≡ Ok (at, r) → ts ≡ token k at ∷ r
unfolding expect
expect_sound k [] at r e = cc
expect_sound k (t ∷ ts) at r e = expect_here k t ts (same t.kind k) refl at r e

pub expect_complete : (k : Kind) (at : Span) (r : Tokens) → expect k (token k at ∷ r) ≡ Ok (at, r)
unfolding expect
expect_complete k at r = rw (same_self k) refl

-- whether the next token is of a kind
pub sees_cases : (k : Kind) (ts : Tokens) → ((at : Span) × (m : Tokens) × (ts ≡ token k at ∷ m))
    ⊎ ((sees k ts ≡ false) × (after k ts ≡ ts))
sees_cases k [] = inr (refl, refl)
sees_cases k (t ∷ ts) = elim (cases_Bool (same t.kind k)) [
  | inl e ↦ inl (t.span, ts, ap (λ (q : Kind). token q t.span ∷ ts) (same_is t.kind k e))
  | inr e ↦ inr
      (e, rw e refl)
]

pub eat_found : {B : Type 0} (k : Kind) (at : Span) (m : Tokens) (f : Bool → Parser B) → and_then
    (eat k (token k at ∷ m)) f ≡ f true m
unfolding eat
eat_found k at m f = rw (same_self k) refl

pub eat_missed : {B : Type 0} (k : Kind) (ts : Tokens) (f : Bool → Parser B) → sees k ts ≡ false → and_then (eat k ts) f
    ≡ f false ts
unfolding eat
eat_missed k [] f e = refl
eat_missed k (t ∷ ts) f e = rw e refl

pub eat_sound : {B : Type 0} (k : Kind) (ts : Tokens) (f : Bool → Parser B) (y : B) (r : Tokens) → and_then (eat k ts) f
    ≡ Ok (y, r) → ((at : Span) × (m : Tokens) × (ts ≡ token k at ∷ m) × (f true m ≡ Ok (y, r)))
    ⊎ (f false ts ≡ Ok (y, r))
eat_sound {B} k ts f y r e =
    elim (sees_cases k ts) [
      | inl h ↦ inl (
        h.0,
        h.1,
        h.2,
        sym (eat_found k h.0 h.1 f)
            ∙ (ap (λ (q : Tokens). and_then (eat k q) f) (sym h.2) ∙ e),
      )
      | inr h ↦ inr (sym (eat_missed k ts f h.0) ∙ e)
    ]

-- the same with what a miss shows
pub eat_either : {B : Type 0} (k : Kind) (ts : Tokens) (f : Bool → Parser B) (y : B) (r : Tokens) → and_then
    (eat k ts) f ≡ Ok (y, r) → ((at : Span) × (m : Tokens) × (ts ≡ token k at ∷ m) × (f true m ≡ Ok (y, r)))
    ⊎ ((sees k ts ≡ false) × (f false ts ≡ Ok (y, r)))
eat_either {B} k ts f y r e =
    elim (sees_cases k ts) [
      | inl h ↦ inl (
        h.0,
        h.1,
        h.2,
        sym (eat_found k h.0 h.1 f)
            ∙ (ap (λ (q : Tokens). and_then (eat k q) f) (sym h.2) ∙ e),
      )
      | inr h ↦ inr (h.0, sym (eat_missed k ts f h.0) ∙ e)
    ]

pub look_is : {B : Type 0} (k : Kind) (ts : Tokens) (f : Bool → Parser B) → and_then (look k ts) f ≡ f (sees k ts) ts
unfolding look
look_is k ts f = refl

pub accept_found : {B : Type 0} (k : Kind) (at : Span) (m : Tokens) (f : Option Span → Parser B) → and_then
    (accept k (token k at ∷ m)) f ≡ f (Some at) m
unfolding accept
accept_found k at m f = rw (same_self k) refl

pub accept_missed : {B : Type 0} (k : Kind) (ts : Tokens) (f : Option Span → Parser B) → sees k ts ≡ false → and_then
    (accept k ts) f ≡ f None ts
unfolding accept
accept_missed k [] f e = refl
accept_missed k (t ∷ ts) f e = rw e refl

pub accept_sound : {B : Type 0} (k : Kind) (ts : Tokens) (f : Option Span → Parser B) (y : B) (r : Tokens) → and_then
    (accept k ts) f ≡ Ok (y, r) → ((at : Span) × (m : Tokens) × (ts ≡ token k at ∷ m) × (f (Some at) m ≡ Ok (y, r)))
    ⊎ ((sees k ts ≡ false) × (f None ts ≡ Ok (y, r)))
accept_sound {B} k ts f y r e =
    elim (sees_cases k ts) [
      | inl h ↦ inl (
        h.0,
        h.1,
        h.2,
        sym (accept_found k h.0 h.1 f)
            ∙ (ap (λ (q : Tokens). and_then (accept k q) f) (sym h.2) ∙ e),
      )
      | inr h ↦ inr (h.0, sym (accept_missed k ts f h.0) ∙ e)
    ]

-- ---- operators, each written by one kind of token
module _ {O : Type 0} (of : Kind → Option O) (kind_of : O → Kind)
    (back : (k : Kind) (op : O) → of k ≡ Some op → k ≡ kind_of op) (forth : (op : O) → of (kind_of op) ≡ Some op) where
  pub operator_ended : {B : Type 0} (f : Option (O × Span) → Parser B) → and_then (eat_operator of []) f ≡ f None []
  unfolding eat_operator
  operator_ended f = refl

  operator_cases : (o : Option O) (t : Token) → of t.kind ≡ o → ((op : O) × (t ≡ token (kind_of op) t.span))
      ⊎ (o ≡ None)
  operator_cases None t e = inr refl
  operator_cases (Some op) t e = inl (op, ap (λ (q : Kind). token q t.span) (back t.kind op e))

  pub operator_found : {B : Type 0} (op : O) (at : Span) (m : Tokens) (f : Option (O × Span) → Parser B) → and_then
      (eat_operator of (token (kind_of op) at ∷ m)) f ≡ f (Some (op, at)) m
  unfolding eat_operator
  operator_found op at m f = rw (forth op) refl

  pub operator_missed : {B : Type 0} (t : Token) (m : Tokens) (f : Option (O × Span) → Parser B) → of t.kind ≡ None
      → and_then (eat_operator of (t ∷ m)) f ≡ f None (t ∷ m)
  unfolding eat_operator
  operator_missed t m f e = rw e refl

  pub operator_sound : {B : Type 0} (ts : Tokens) (f : Option (O × Span) → Parser B) (y : B) (r : Tokens) → and_then
      (eat_operator of ts) f ≡ Ok (y, r) → ((op : O) × (at : Span) × (m : Tokens) × (ts ≡ token (kind_of op) at ∷ m)
      × (f (Some (op, at)) m ≡ Ok (y, r))) ⊎ (f None ts ≡ Ok (y, r))
  unfolding eat_operator
  operator_sound [] f y r e = inr e
  operator_sound (t ∷ m) f y r e =
      elim (operator_cases (of t.kind) t refl) [
        | inl h ↦ (let here : t ∷ m ≡ token (kind_of h.0) t.span ∷ m = ap (λ (q : Token). q ∷ m) h.1 in inl (
          h.0,
          t.span,
          m,
          here,
          sym (operator_found h.0 t.span m f)
              ∙ (ap (λ (q : Tokens). and_then (eat_operator of q) f) (sym here) ∙ e),
        ))
        | inr h ↦ inr (sym (operator_missed t m f h) ∙ e)
      ]

pub refused : {A : Type 0} (ends : Tokens → Type 0) → Exact {A = A} ends nothing refuse
refused ends = record { sound = λ ts x r e. cc; complete = λ x ts r d. absurd d; shrinks = λ x ts r d. absurd d }
