-- A parser looks no further than the token that it stops before or refuses.
use Rattle.std.proofs.Common.{◌≡◌, ℕ, ◌<◌, ◌≤◌, Bool, true, false, [], ◌∷◌, ◌++◌, length, Option, Some, None, Ok, Err}
use Rattle.std.proofs.Common.{◌⊎◌, inl, inr, refl, sym, ap, ◌∙◌, append_assoc, length-append, arith, if◌then◌else◌}
use Rattle.ps_text.specs.declared.Span.{Span}
use Rattle.ps_scan.specs.declared.token.Kind.{Kind}
use Rattle.ps_scan.specs.declared.token.Token.{Token}
use Rattle.ps_scan.specs.Kinds.{same}
use Rattle.ps_parse_grammar.specs.Symbols.{Tokens}
use Rattle.ps_parse.specs.Steps.{Outcome, Parser, and_then, first, rest, skip, sees, eat, accept, accept_one, look}
use Rattle.ps_parse.specs.Steps.{expect, if_some, if_begins, pure, refuse, ◌>>=◌, ◌>>◌, ◌<$>◌}
use Rattle.ps_parse.specs.ReadExpressions.{eat_operator, taken}
use Rattle.ps_parse.proofs.Exact.{both_steps, first_part, second_part, expect_sound}

-- What it reads, and where it refuses, depends only on the tokens before that place and on the next one.
pub record Local {A : Type 0} (p : Parser A) : Type 0 where
  pub reads : (ts : Tokens) (a : A) (r : Tokens) → p ts ≡ Ok (a, r) → (c : Tokens) × (ts ≡ c ++ r)
      × ((r' : Tokens) → first r' ≡ first r → p (c ++ r') ≡ Ok (a, r'))
  pub refuses : (ts : Tokens) (n : ℕ) → p ts ≡ Err n → (c : Tokens) × (r : Tokens) × (ts ≡ c ++ r) × (length r ≡ n)
      × ((r' : Tokens) → first r' ≡ first r → p (c ++ r') ≡ Err (length r'))

pub first_after : (c r r' : Tokens) → first r' ≡ first r → first (c ++ r') ≡ first (c ++ r)
first_after [] r r' e = e
first_after (t ∷ c) r r' e = refl

either_step : {A B : Type 0} (o : Outcome A) (f : A → Parser B) (n : ℕ) → and_then o f ≡ Err n → (o ≡ Err n)
    ⊎ ((x : A) × (m : Tokens) × (o ≡ Ok (x, m)) × (f x m ≡ Err n))
either_step (Err k) f n e = inl (left_same k n e)
  where
    left_same : {A B : Type 0} (k n : ℕ) → ◌≡◌ {A = Outcome B} (Err k) (Err n) → ◌≡◌ {A = Outcome A} (Err k) (Err n)
    left_same {A} {B} k n e = ap (λ (o : Outcome B). elim o [ Err i ↦ Err i | Ok q ↦ Err n ]) e
either_step (Ok p) f n e = inr (p.0, p.1, refl, e)

pub local_pure : {A : Type 0} (a : A) → Local (pure a)
local_pure a = record {
  reads = λ ts b r e. ([], second_part a b ts r e, λ r' s. ap (λ z. Ok (z, r')) (first_part a b ts r e));
  refuses = λ ts n e. cc;
}

refused_length : {A : Type 0} (k n : ℕ) → ◌≡◌ {A = Outcome A} (Err k) (Err n) → k ≡ n
refused_length {A} k n e = ap (λ (o : Outcome A). elim o [ Err i ↦ i | Ok q ↦ k ]) e

pub local_refuse : {A : Type 0} → Local {A = A} refuse
local_refuse {A} = record {
  reads = λ ts a r e. cc;
  refuses = λ ts n e. ([], ts, refl, refused_length {A = A} (length ts) n e, λ r' s. refl);
}

module _ {A B : Type 0} (p : Parser A) (f : A → Parser B) (h : Local p) (i : (x : A) → Local (f x)) where
  bind_reads : (ts : Tokens) (b : B) (r : Tokens) → (p >>= f) ts ≡ Ok (b, r) → (c : Tokens) × (ts ≡ c ++ r)
      × ((r' : Tokens) → first r' ≡ first r → (p >>= f) (c ++ r') ≡ Ok (b, r'))
  bind_reads ts b r e =
      let s = both_steps (p ts) f b r e in
      let one = h.reads ts s.0 s.1 s.2 in
      let two = (i s.0).reads s.1 b r s.3 in (
        one.0 ++ two.0,
        one.1 ∙ ap (λ (q : Tokens). one.0 ++ q) two.1 ∙ sym (append_assoc one.0 two.0 r),
        λ r' same. ap (p >>= f) (append_assoc one.0 two.0 r')
            ∙ ap (λ (o : Outcome A). and_then o f)
            (one.2 (two.0 ++ r') (first_after two.0 r r' same ∙ ap first (sym two.1)))
            ∙ two.2 r' same,
      )

  bind_refuses : (ts : Tokens) (n : ℕ) → (p >>= f) ts ≡ Err n → (c : Tokens) × (r : Tokens) × (ts ≡ c ++ r)
      × (length r ≡ n) × ((r' : Tokens) → first r' ≡ first r → (p >>= f) (c ++ r') ≡ Err (length r'))
  bind_refuses ts n e =
      elim (either_step (p ts) f n e) [
        | inl w ↦ (let one = h.refuses ts n w in
            (one.0, one.1, one.2, one.3, λ r' same. ap (λ (o : Outcome A). and_then o f) (one.4 r' same)))
        | inr s ↦ (let one = h.reads ts s.0 s.1 s.2 in let two = (i s.0).refuses s.1 n s.3 in (
          one.0 ++ two.0,
          two.1,
          one.1 ∙ ap (λ (q : Tokens). one.0 ++ q) two.2 ∙ sym (append_assoc one.0 two.0 two.1),
          two.3,
          λ r' same. ap (p >>= f) (append_assoc one.0 two.0 r')
              ∙ ap (λ (o : Outcome A). and_then o f)
              (one.2 (two.0 ++ r') (first_after two.0 two.1 r' same ∙ ap first (sym two.2)))
              ∙ two.4 r' same,
        ))
      ]

  pub local_bind : Local (p >>= f)
  local_bind = record { reads = bind_reads; refuses = bind_refuses }

-- a parser that chooses by the next token
module _ {A : Type 0} (q : Option Token → Parser A) (h : (o : Option Token) → Local (q o)) where
  by_reads : (ts : Tokens) (a : A) (r : Tokens) → q (first ts) ts ≡ Ok (a, r) → (c : Tokens) × (ts ≡ c ++ r)
      × ((r' : Tokens) → first r' ≡ first r → q (first (c ++ r')) (c ++ r') ≡ Ok (a, r'))
  by_reads ts a r e =
      let one = (h (first ts)).reads ts a r e in (
        one.0,
        one.1,
        λ r' same. ap (λ (o : Option Token). q o (one.0 ++ r'))
            (first_after one.0 r r' same ∙ ap first (sym one.1)) ∙ one.2 r' same,
      )

  by_refuses : (ts : Tokens) (n : ℕ) → q (first ts) ts ≡ Err n → (c : Tokens) × (r : Tokens) × (ts ≡ c ++ r)
      × (length r ≡ n) × ((r' : Tokens) → first r' ≡ first r → q (first (c ++ r')) (c ++ r') ≡ Err (length r'))
  by_refuses ts n e =
      let one = (h (first ts)).refuses ts n e in (
        one.0,
        one.1,
        one.2,
        one.3,
        λ r' same. ap (λ (o : Option Token). q o (one.0 ++ r'))
            (first_after one.0 one.1 r' same ∙ ap first (sym one.2)) ∙ one.4 r' same,
      )

  pub local_by : Local (λ ts. q (first ts) ts)
  local_by = record { reads = by_reads; refuses = by_refuses }

-- a parser that does the same on all tokens
pub local_same : {A : Type 0} (p q : Parser A) → ((ts : Tokens) → p ts ≡ q ts) → Local p → Local q
local_same p q e h = record {
  reads = λ ts a r d. (let one = h.reads ts a r (e ts ∙ d)
      in (one.0, one.1, λ r' same. sym (e (one.0 ++ r')) ∙ one.2 r' same));
  refuses = λ ts n d. (let one = h.refuses ts n (e ts ∙ d)
      in (one.0, one.1, one.2, one.3, λ r' same. sym (e (one.0 ++ r')) ∙ one.4 r' same));
}

pub none_left : (r : Tokens) → first r ≡ None → r ≡ []
none_left [] e = refl
none_left (t ∷ r) e = cc

skip_reads : (ts : Tokens) (a : Unit {0}) (r : Tokens) → skip ts ≡ Ok (a, r) → (c : Tokens) × (ts ≡ c ++ r)
    × ((r' : Tokens) → first r' ≡ first r → skip (c ++ r') ≡ Ok (a, r'))
skip_reads [] a r e = (
  [],
  second_part tt a [] r e,
  λ r' same. ap (λ (z : Tokens). Ok (tt, z))
      (ap rest (none_left r' (same ∙ ap first (sym (second_part tt a [] r e)))) ∙ sym
      (none_left r' (same ∙ ap first (sym (second_part tt a [] r e))))),
)
skip_reads (t ∷ ts) a r e = (t ∷ [], ap (λ (z : Tokens). t ∷ z) (second_part tt a ts r e), λ r' same. refl)

pub local_skip : Local skip
local_skip = record { reads = skip_reads; refuses = λ ts n e. cc }

pub local_if : {A : Type 0} (p q : Parser A) → Local p → Local q → (b : Bool) → Local (if b then p else q)
local_if p q h i true = h
local_if p q h i false = i

pub local_if_some : {A B : Type 0} (f : A → Parser B) (p : Parser B) → ((x : A) → Local (f x)) → Local p
    → (o : Option A) → Local (if_some o f p)
local_if_some f p h i None = i
local_if_some f p h i (Some x) = h x

pub local_then : {A B : Type 0} (p : Parser A) (q : Parser B) → Local p → Local q → Local (p >> q)
local_then p q h i = local_bind p (λ _. q) h (λ _. i)

abbrev pub seen : Kind → Option Token → Bool
seen k None = false
seen k (Some t) = same t.kind k

eat_is : (k : Kind) (ts : Tokens) → (if seen k (first ts) then (skip >> pure true) else pure false) ts ≡ eat k ts
unfolding eat
eat_is k [] = refl
eat_is k (t ∷ ts) = go (same t.kind k) refl
  where
    go : (b : Bool) → same t.kind k ≡ b → (if same t.kind k then (skip >> pure true) else pure false) (t ∷ ts) ≡ Ok
        (same t.kind k, if same t.kind k then ts else t ∷ ts)
    go true e = rw e refl
    go false e = rw e refl

pub local_eat : (k : Kind) → Local (eat k)
local_eat k = local_same _ (eat k) (eat_is k)
    (local_by (λ o. if seen k o then (skip >> pure true) else pure false)
    (λ o. local_if _ _ (local_then skip (pure true) local_skip (local_pure true)) (local_pure false) (seen k o)))

look_is : (k : Kind) (ts : Tokens) → pure (seen k (first ts)) ts ≡ look k ts
unfolding look
look_is k [] = refl
look_is k (t ∷ ts) = refl

pub local_look : (k : Kind) → Local (look k)
local_look k = local_same _ (look k) (look_is k) (local_by (λ o. pure (seen k o)) (λ o. local_pure (seen k o)))

one_of : Kind → Token → Parser Span
one_of k t = if same t.kind k then (skip >> pure t.span) else refuse

expect_is : (k : Kind) (ts : Tokens) → if_some (first ts) (one_of k) refuse ts ≡ expect k ts
unfolding expect one_of
expect_is k [] = refl
expect_is k (t ∷ ts) = go (same t.kind k) refl
  where
    go : (b : Bool) → same t.kind k ≡ b → (if same t.kind k then (skip >> pure t.span) else refuse) (t ∷ ts)
        ≡ (if same t.kind k then Ok (t.span, ts) else Err (length (t ∷ ts)))
    go true e = rw e refl
    go false e = rw e refl

pub local_expect : (k : Kind) → Local (expect k)
unfolding one_of
local_expect k = local_same _ (expect k) (expect_is k)
    (local_by (λ o. if_some o (one_of k) refuse)
    (λ o. local_if_some (one_of k) refuse (λ t. local_if _ _
    (local_then skip (pure t.span) local_skip (local_pure t.span)) local_refuse (same t.kind k)) local_refuse o))

pub local_map : {A B : Type 0} (f : A → B) (p : Parser A) → Local p → Local (f <$> p)
local_map f p h = local_bind p (λ x. pure (f x)) h (λ x. local_pure (f x))

-- past the next token
pub local_past : {A : Type 0} (p : Parser A) → Local p → Local (skip >> p)
local_past p h = local_then skip p local_skip h

-- by the next token, if there is one
pub local_next : {A : Type 0} (f : Token → Parser A) (p : Parser A) → ((t : Token) → Local (f t)) → Local p → Local
    (λ ts. if_some (first ts) f p ts)
local_next f p h i = local_by (λ o. if_some o f p) (λ o. local_if_some f p h i o)

local_one : (b : Bool) (at : Span) → Local (accept_one b at)
local_one true at = local_past (pure (Some at)) (local_pure (Some at))
local_one false at = local_pure None

pub local_accept : (k : Kind) → Local (accept k)
unfolding accept
local_accept k = local_next (λ t. accept_one (same t.kind k) t.span) (pure None) (λ t. local_one (same t.kind k) t.span)
    (local_pure None)

local_taken : {O : Type 0} (op : Option O) (at : Span) → Local (taken op at)
local_taken None at = local_pure None
local_taken (Some op) at = local_past (pure (Some (op, at))) (local_pure (Some (op, at)))

pub local_operator : {O : Type 0} (of : Kind → Option O) → Local (eat_operator of)
unfolding eat_operator
local_operator of = local_next (λ t. taken (of t.kind) t.span) (pure None) (λ t. local_taken (of t.kind) t.span)
    (local_pure None)

-- ---- what the next token shows
either_at : {A : Type 0} (b : Bool) (p q : Parser A) (ts : Tokens) → (if b then p else q) ts
    ≡ (if b then p ts else q ts)
either_at true p q ts = refl
either_at false p q ts = refl

module _ {A : Type 0} (begins : Tokens → Bool) (is_begin : Option Token → Bool)
    (shown : (ts : Tokens) → is_begin (first ts) ≡ begins ts) where
  choice_is : (p q : Parser A) (ts : Tokens) → (if is_begin (first ts) then p else q) ts
      ≡ (if begins ts then p ts else q ts)
  choice_is p q ts = ap (λ (b : Bool). (if b then p else q) ts) (shown ts) ∙ either_at (begins ts) p q ts

  pub local_choice : (p q : Parser A) → Local p → Local q → Local (λ ts. if begins ts then p ts else q ts)
  local_choice p q h i = local_same _ _ (choice_is p q)
      (local_by (λ o. if is_begin o then p else q) (λ o. local_if p q h i (is_begin o)))

pub sees_shown : (k : Kind) (ts : Tokens) → seen k (first ts) ≡ sees k ts
sees_shown k [] = refl
sees_shown k (t ∷ ts) = refl

pub local_if_begins : {A : Type 0} (begins : Tokens → Bool) (is_begin : Option Token → Bool)
    → ((ts : Tokens) → is_begin (first ts) ≡ begins ts) → (p : Parser A) → Local p → Local (if_begins begins p)
unfolding if_begins
local_if_begins begins is_begin shown p h = local_choice begins is_begin shown (Some <$> p) (pure None)
    (local_map Some p h) (local_pure None)

-- ---- how much is taken
pub no_longer : {A : Type 0} (p : Parser A) → Local p → (ts : Tokens) (a : A) (r : Tokens) → p ts ≡ Ok (a, r)
    → length r ≤ length ts
no_longer p h ts a r e = (let one = h.reads ts a r e in omega (arith, ap length one.1, length-append one.0 r))

-- it takes at least one token
abbrev pub Takes : {A : Type 0} → Parser A → Type 0
Takes {A} p = (ts : Tokens) (a : A) (r : Tokens) → p ts ≡ Ok (a, r) → length r < length ts

pub expect_takes : (k : Kind) → Takes (expect k)
expect_takes k ts at r e = (let here = expect_sound k ts at r e in omega (arith, ap length here))

pub last_takes : {A B : Type 0} (p : Parser A) (f : A → Parser B) → Local p → ((x : A) → Takes (f x)) → Takes (p >>= f)
last_takes p f h t ts b r e = (let s = both_steps (p ts) f b r e in omega
    (arith, no_longer p h ts s.0 s.1 s.2, t s.0 s.1 b r s.3))

pub first_takes : {A B : Type 0} (p : Parser A) (f : A → Parser B) → Takes p → ((x : A) → Local (f x)) → Takes (p >>= f)
first_takes p f t i ts b r e = (let s = both_steps (p ts) f b r e in omega
    (arith, t ts s.0 s.1 s.2, no_longer (f s.0) (i s.0) s.1 b r s.3))

pub past_takes : {A : Type 0} (p : Parser A) → Local p → (t : Token) (ts : Tokens) (a : A) (r : Tokens) → (skip >> p)
    (t ∷ ts) ≡ Ok (a, r) → length r < length (t ∷ ts)
past_takes p h t ts a r e = omega (arith, no_longer p h ts a r e)

pub starts_with : {A B : Type 0} (p : Parser A) (f : A → Parser B) → Local p → Takes p → ((x : A) → Local (f x)) → Local
    (p >>= f) × Takes (p >>= f)
starts_with p f h t i = (local_bind p f h i, first_takes p f t i)

pub none_some : {A : Type 0} (x : A) (m r : Tokens) → ◌≡◌ {A = Outcome (Option A)} (Ok (None, m)) (Ok (Some x, r)) → ⊥
none_some {A} x m r e = (let none : ◌≡◌ {A = Option A} None (Some x) = first_part None (Some x) m r e in cc)
