-- That what a parser took before it refuses begins something that derives from its symbol.
use Rattle.std.proofs.Common.{◌≡◌, ℕ, zero, suc, Bool, true, false, List, [], ◌∷◌, ◌++◌, length, Option, Some, None}
use Rattle.std.proofs.Common.{Ok, Err, ◌⊎◌, inl, inr, refl, sym, ap, ◌∙◌, subst, append_assoc, append-nil}
use Rattle.std.proofs.Common.{if◌then◌else◌}
use Rattle.ps_text.specs.declared.Span.{Span}
use Rattle.ps_scan.specs.declared.token.Kind.{Kind}
use Rattle.ps_scan.specs.declared.token.Token.{Token}
use Rattle.ps_scan.specs.Kinds.{same}
use Rattle.ps_parse_grammar.specs.Symbols.{Tokens, Symbol, token, Many, Separated, Terminated, none, more, one}
use Rattle.ps_parse_grammar.specs.Symbols.{several, exactly, trailing}
use Rattle.ps_parse_grammar.specs.Programs.{IsPart, without, filled}
use Rattle.ps_parse.specs.Steps.{Outcome, Parser, and_then, if_some, first, ◌>>=◌, ◌<$>◌, pure, refuse, sees, eat}
use Rattle.ps_parse.specs.Steps.{look, accept, expect, separated, separated_from, many, many_from, terminated}
use Rattle.ps_parse.specs.Steps.{terminated_from, if_begins, part}
use Rattle.ps_parse.specs.ReadExpressions.{eat_operator}
use Rattle.ps_parse.proofs.Exact.{Perhaps, sees_cases, eat_found, eat_missed, accept_found, accept_missed}
use Rattle.ps_parse.proofs.Exact.{operator_found, operator_missed, operator_ended, same_is, same_self}

-- The tokens derive from the symbol, whatever comes after them.
abbrev pub Framed : {A : Type 0} → Symbol A → A → Tokens → Type 0
Framed S x c = (u : Tokens) → S x (c ++ u) u

-- what was read
pub record Took {A : Type 0} (S : Symbol A) (ts : Tokens) (x : A) (r : Tokens) : Type 0 where
  pub taken : Tokens
  pub split : ts ≡ taken ++ r
  pub derives : Framed S x taken

-- Where it was refused, what was taken can be completed.
pub record Begun {A : Type 0} (S : Symbol A) (ts : Tokens) (n : ℕ) : Type 0 where
  pub taken : Tokens
  pub left : Tokens
  pub split : ts ≡ taken ++ left
  pub count : length left ≡ n
  pub missing : Tokens
  pub tree : A
  pub derives : Framed S tree (taken ++ missing)

-- some tokens that derive from the symbol
pub record Start {A : Type 0} (S : Symbol A) : Type 0 where
  pub tokens : Tokens
  pub tree : A
  pub derives : Framed S tree tokens

abbrev pub Well : {A : Type 0} → Symbol A → Tokens → Outcome A → Type 0
Well S ts (Ok q) = Took S ts q.0 q.1
Well S ts (Err n) = Begun S ts n

pub record Viable {A : Type 0} (S : Symbol A) (p : Parser A) : Type 0 where
  pub well : (ts : Tokens) → Well S ts (p ts)
  pub start : Start S

-- ---- a symbol within another
abbrev pub Within : {A : Type 0} → Symbol A → Symbol A → Type 0
Within {A} S T = (x : A) (ts r : Tokens) → S x ts r → T x ts r

module _ {A : Type 0} (S T : Symbol A) (h : Within S T) where
  pub well_within : (ts : Tokens) (o : Outcome A) → Well S ts o → Well T ts o
  well_within ts (Ok q) w = record {
    taken = w.taken;
    split = w.split;
    derives = λ u. h q.0 (w.taken ++ u) u (w.derives u);
  }
  well_within ts (Err n) w = record {
    taken = w.taken;
    left = w.left;
    split = w.split;
    count = w.count;
    missing = w.missing;
    tree = w.tree;
    derives = λ u. h w.tree ((w.taken ++ w.missing) ++ u) u (w.derives u);
  }

  pub start_within : Start S → Start T
  start_within s = record { tokens = s.tokens; tree = s.tree; derives = λ u. h s.tree (s.tokens ++ u) u (s.derives u) }

  pub viable_within : (p : Parser A) → Viable S p → Viable T p
  viable_within p v = record { well = λ ts. well_within ts (p ts) (v.well ts); start = start_within v.start }

-- ---- after a token
module _ {A : Type 0} (S T : Symbol A) (t : Token) (h : (x : A) (ts r : Tokens) → S x ts r → T x (t ∷ ts) r) where
  pub well_after : (ts : Tokens) (o : Outcome A) → Well S ts o → Well T (t ∷ ts) o
  well_after ts (Ok q) w = record {
    taken = t ∷ w.taken;
    split = ap (λ (z : Tokens). t ∷ z) w.split;
    derives = λ u. h q.0 (w.taken ++ u) u (w.derives u);
  }
  well_after ts (Err n) w = record {
    taken = t ∷ w.taken;
    left = w.left;
    split = ap (λ (z : Tokens). t ∷ z) w.split;
    count = w.count;
    missing = w.missing;
    tree = w.tree;
    derives = λ u. h w.tree ((w.taken ++ w.missing) ++ u) u (w.derives u);
  }

  pub start_after : Start S → Start T
  start_after s = record {
    tokens = t ∷ s.tokens;
    tree = s.tree;
    derives = λ u. h s.tree (s.tokens ++ u) u (s.derives u);
  }

-- ---- nothing is taken
pub well_pure : {A : Type 0} {S : Symbol A} {x : A} → ((r : Tokens) → S x r r) → (ts : Tokens) → Well S ts (Ok (x, ts))
well_pure h ts = record { taken = []; split = refl; derives = h }

pub viable_pure : {A : Type 0} {S : Symbol A} {x : A} → ((r : Tokens) → S x r r) → Viable S (pure x)
viable_pure {x = x} h = record { well = well_pure h; start = record { tokens = []; tree = x; derives = h } }

pub well_refuse : {A : Type 0} {S : Symbol A} → Start S → (ts : Tokens) → Well S ts (Err (length ts))
well_refuse s ts = record {
  taken = [];
  left = ts;
  split = refl;
  count = refl;
  missing = s.tokens;
  tree = s.tree;
  derives = s.derives;
}

pub viable_refuse : {A : Type 0} {S : Symbol A} → Start S → Viable S refuse
viable_refuse s = record { well = well_refuse s; start = s }

-- ---- one after the other

-- what is left of R after S gave x
abbrev pub After : {A B : Type 0} → Symbol A → Symbol B → A → Symbol B
After S R x = λ y m r. (ts : Tokens) → S x ts m → R y ts r

module _ {A B : Type 0} (S : Symbol A) (R : Symbol B) where
  both_framed : (x : A) (y : B) (c d : Tokens) → Framed S x c → Framed (After S R x) y d → Framed R y (c ++ d)
  both_framed x y c d f g = λ u. subst (λ (z : Tokens). R y z u) (sym (append_assoc c d u))
      (g u (c ++ (d ++ u)) (f (d ++ u)))

  then_well : (x : A) (c ts m : Tokens) → ts ≡ c ++ m → Framed S x c → (o : Outcome B) → Well (After S R x) m o
      → Well R ts o
  then_well x c ts m e f (Ok q) w = record {
    taken = c ++ w.taken;
    split = e ∙ ap (λ (z : Tokens). c ++ z) w.split ∙ sym (append_assoc c w.taken q.1);
    derives = both_framed x q.0 c w.taken f w.derives;
  }
  then_well x c ts m e f (Err n) w = record {
    taken = c ++ w.taken;
    left = w.left;
    split = e ∙ ap (λ (z : Tokens). c ++ z) w.split ∙ sym (append_assoc c w.taken w.left);
    count = w.count;
    missing = w.missing;
    tree = w.tree;
    derives = subst (λ (z : Tokens). Framed R w.tree z) (sym (append_assoc c w.taken w.missing))
        (both_framed x w.tree c (w.taken ++ w.missing) f w.derives);
  }

  then_start : (c : Tokens) (x : A) → Framed S x c → Start (After S R x) → Start R
  then_start c x f s = record {
    tokens = c ++ s.tokens;
    tree = s.tree;
    derives = both_framed x s.tree c s.tokens f s.derives;
  }

  refused_first : ((x : A) → Start (After S R x)) → (ts : Tokens) (n : ℕ) → Begun S ts n → Begun R ts n
  refused_first starts ts n w = let s = starts w.tree in record {
    taken = w.taken;
    left = w.left;
    split = w.split;
    count = w.count;
    missing = w.missing ++ s.tokens;
    tree = s.tree;
    derives = subst (λ (z : Tokens). Framed R s.tree z) (append_assoc w.taken w.missing s.tokens)
        (both_framed w.tree s.tree (w.taken ++ w.missing) s.tokens w.derives s.derives);
  }

  bind_well : (f : A → Parser B) → ((x : A) → Viable (After S R x) (f x)) → (ts : Tokens) (o : Outcome A) → Well S ts o
      → Well R ts (and_then o f)
  bind_well f h ts (Ok q) w = then_well q.0 w.taken ts q.1 w.split w.derives (f q.0 q.1) ((h q.0).well q.1)
  bind_well f h ts (Err n) w = refused_first (λ x. (h x).start) ts n w

pub viable_bind : {A B : Type 0} {S : Symbol A} {R : Symbol B} {p : Parser A} {f : A → Parser B} → Viable S p
    → ((x : A) → Viable (After S R x) (f x)) → Viable R (p >>= f)
viable_bind {S = S} {R = R} {p = p} {f = f} v h = record {
  well = λ ts. bind_well S R f h ts (p ts) (v.well ts);
  start = let s = v.start in then_start S R s.tokens s.tree s.derives ((h s.tree).start);
}

-- what was read is put to use
pub viable_map : {A B : Type 0} {S : Symbol A} {R : Symbol B} {p : Parser A} (f : A → B) → Viable S p
    → ((x : A) (ts r : Tokens) → S x ts r → R (f x) ts r) → Viable R (f <$> p)
viable_map f v h = viable_bind v (λ x. viable_pure (λ r ts d. h x ts r d))

-- ---- tokens
-- what is left of R after a token
abbrev pub Behind : {B : Type 0} → Kind → Span → Symbol B → Symbol B
Behind k at R = λ y m r. R y (token k at ∷ m) r

-- the place in the text of the tokens that a completion takes: any
abbrev pub nowhere : Span
nowhere = record { from = 0; to = 0 }

module _ {B : Type 0} (R : Symbol B) where
  behind : (k : Kind) (at : Span) (ts : Tokens) (o : Outcome B) → Well (Behind k at R) ts o → Well R (token k at ∷ ts) o
  behind k at ts o w = well_after (Behind k at R) R (token k at) (λ x ts r d. d) ts o w

  -- a parser after a token
  pub after_token : (k : Kind) (at : Span) (p : Parser B) → Viable (Behind k at R) p → (ts : Tokens) → Well R
      (token k at ∷ ts) (p ts)
  after_token k at p v ts = behind k at ts (p ts) (v.well ts)

  pub start_behind : (k : Kind) → Start (Behind k nowhere R) → Start R
  start_behind k s = start_after (Behind k nowhere R) R (token k nowhere) (λ x ts r d. d) s

  module _ (k : Kind) where
    expect_at : (f : Span → Parser B) → ((at : Span) → Viable (Behind k at R) (f at)) → (t : Token) (ts : Tokens)
        (b : Bool) → same t.kind k ≡ b → Well R (t ∷ ts) (and_then (expect k (t ∷ ts)) f)
    unfolding expect
    expect_at f h t ts true e = rw e (subst (λ (z : Kind). Well R (token z t.span ∷ ts) (f t.span ts))
        (sym (same_is t.kind k e)) (behind k t.span ts (f t.span ts) ((h t.span).well ts)))
    expect_at f h t ts false e = rw e (well_refuse (start_behind k (h nowhere).start) (t ∷ ts))

    expect_well : (f : Span → Parser B) → ((at : Span) → Viable (Behind k at R) (f at)) → (ts : Tokens) → Well R ts
        (and_then (expect k ts) f)
    unfolding expect
    expect_well f h [] = well_refuse (start_behind k (h nowhere).start) []
    expect_well f h (t ∷ ts) = expect_at f h t ts (same t.kind k) refl

    pub viable_expect : (f : Span → Parser B) → ((at : Span) → Viable (Behind k at R) (f at)) → Viable R
        (expect k >>= f)
    viable_expect f h = record { well = expect_well f h; start = start_behind k (h nowhere).start }

    eat_well : (f : Bool → Parser B) → ((at : Span) → Viable (Behind k at R) (f true)) → Viable R (f false)
        → (ts : Tokens) → Well R ts (and_then (eat k ts) f)
    eat_well f h i ts =
        elim (sees_cases k ts) [
          | inl w ↦ subst (λ (z : Tokens). Well R z (and_then (eat k z) f)) (sym w.2)
              (subst (λ (o : Outcome B). Well R (token k w.0 ∷ w.1) o) (sym (eat_found k w.0 w.1 f))
              (behind k w.0 w.1 (f true w.1) ((h w.0).well w.1)))
          | inr w ↦ subst (λ (o : Outcome B). Well R ts o) (sym (eat_missed k ts f w.0)) (i.well ts)
        ]

    pub viable_eat : (f : Bool → Parser B) → ((at : Span) → Viable (Behind k at R) (f true)) → Viable R (f false)
        → Viable R (eat k >>= f)
    viable_eat f h i = record { well = eat_well f h i; start = i.start }

    accept_well : (f : Option Span → Parser B) → ((at : Span) → Viable (Behind k at R) (f (Some at))) → Viable R
        (f None) → (ts : Tokens) → Well R ts (and_then (accept k ts) f)
    accept_well f h i ts =
        elim (sees_cases k ts) [
          | inl w ↦ subst (λ (z : Tokens). Well R z (and_then (accept k z) f)) (sym w.2)
              (subst (λ (o : Outcome B). Well R (token k w.0 ∷ w.1) o) (sym (accept_found k w.0 w.1 f))
              (behind k w.0 w.1 (f (Some w.0) w.1) ((h w.0).well w.1)))
          | inr w ↦ subst (λ (o : Outcome B). Well R ts o) (sym (accept_missed k ts f w.0)) (i.well ts)
        ]

    pub viable_accept : (f : Option Span → Parser B) → ((at : Span) → Viable (Behind k at R) (f (Some at))) → Viable R
        (f None) → Viable R (accept k >>= f)
    viable_accept f h i = record { well = accept_well f h i; start = i.start }

-- ---- operators
module _ {O : Type 0} (of : Kind → Option O) (kind_of : O → Kind)
    (back : (k : Kind) (op : O) → of k ≡ Some op → k ≡ kind_of op) (forth : (op : O) → of (kind_of op) ≡ Some op)
    {B : Type 0} (R : Symbol B) where
  operator_cases : (o : Option O) (t : Token) → of t.kind ≡ o → ((op : O) × (t ≡ token (kind_of op) t.span))
      ⊎ (o ≡ None)
  operator_cases None t e = inr refl
  operator_cases (Some op) t e = inl (op, ap (λ (q : Kind). token q t.span) (back t.kind op e))

  operator_at : (f : Option (O × Span) → Parser B)
      → ((op : O) (at : Span) → Viable (Behind (kind_of op) at R) (f (Some (op, at))))
      → ((ts : Tokens) → Well R ts (f None ts)) → (t : Token) (ts : Tokens) → Well R (t ∷ ts)
      (and_then (eat_operator of (t ∷ ts)) f)
  operator_at f h i t ts =
      elim (operator_cases (of t.kind) t refl) [
        | inl w ↦ subst (λ (z : Token). Well R (z ∷ ts) (and_then (eat_operator of (z ∷ ts)) f)) (sym w.1)
            (subst (λ (o : Outcome B). Well R (token (kind_of w.0) t.span ∷ ts) o)
            (sym (operator_found of kind_of back forth w.0 t.span ts f))
            (behind R (kind_of w.0) t.span ts (f (Some (w.0, t.span)) ts) ((h w.0 t.span).well ts)))
        | inr w ↦ subst (λ (o : Outcome B). Well R (t ∷ ts) o) (sym (operator_missed of kind_of back forth t ts f w))
            (i (t ∷ ts))
      ]

  operator_well : (f : Option (O × Span) → Parser B)
      → ((op : O) (at : Span) → Viable (Behind (kind_of op) at R) (f (Some (op, at))))
      → ((ts : Tokens) → Well R ts (f None ts)) → (ts : Tokens) → Well R ts (and_then (eat_operator of ts) f)
  operator_well f h i [] = subst (λ (o : Outcome B). Well R [] o) (sym (operator_ended of kind_of back forth f)) (i [])
  operator_well f h i (t ∷ ts) = operator_at f h i t ts

  pub viable_operator : (f : Option (O × Span) → Parser B)
      → ((op : O) (at : Span) → Viable (Behind (kind_of op) at R) (f (Some (op, at)))) → Viable R (f None) → Viable R
      (eat_operator of >>= f)
  viable_operator f h i = record { well = operator_well f h i.well; start = i.start }

  -- where one has to come
  pub viable_needed : (op : O) (f : Option (O × Span) → Parser B)
      → ((op : O) (at : Span) → Viable (Behind (kind_of op) at R) (f (Some (op, at))))
      → ((ts : Tokens) → f None ts ≡ Err (length ts)) → Viable R (eat_operator of >>= f)
  viable_needed op f h i = let s : Start R = start_behind R (kind_of op) (h op nowhere).start in record {
    well = operator_well f h (λ ts. subst (λ (o : Outcome B). Well R ts o) (sym (i ts)) (well_refuse s ts));
    start = s;
  }

-- ---- a choice by the next token
pub viable_choice : {A : Type 0} {R : Symbol A} (by : Token → Parser A) (p : Parser A)
    → ((t : Token) (ts : Tokens) → Well R (t ∷ ts) (by t (t ∷ ts))) → Well R [] (p []) → Start R → Viable R
    (λ ts. if_some (first ts) by p ts)
viable_choice {A} {R} by p h e s = record { well = chosen; start = s }
  where
    chosen : (ts : Tokens) → Well R ts (if_some (first ts) by p ts)
    chosen [] = e
    chosen (t ∷ ts) = h t ts

-- a choice in which some token has to come
pub viable_choice_of : {A : Type 0} {R : Symbol A} (by : Token → Parser A)
    → ((t : Token) (ts : Tokens) → Well R (t ∷ ts) (by t (t ∷ ts))) → Start R → Viable R
    (λ ts. if_some (first ts) by refuse ts)
viable_choice_of by h s = viable_choice by refuse h (well_refuse s []) s

module _ {B : Type 0} (R : Symbol B) where
  looked : (k : Kind) (f : Bool → Parser B) → Viable R (f true) → Viable R (f false) → (b : Bool) (ts : Tokens)
      → Well R ts (f b ts)
  looked k f h i true ts = h.well ts
  looked k f h i false ts = i.well ts

  pub viable_look : (k : Kind) (f : Bool → Parser B) → Viable R (f true) → Viable R (f false) → Viable R (look k >>= f)
  unfolding look
  viable_look k f h i = record { well = λ ts. looked k f h i (sees k ts) ts; start = i.start }

  -- where a parser is given the number of tokens that are left
  pub viable_counted : (p : ℕ → Parser B) → ((n : ℕ) → Viable R (p n)) → Viable R (λ ts. p (length ts) ts)
  viable_counted p h = record { well = λ ts. (h (length ts)).well ts; start = (h 0).start }

-- ---- lists
module _ {A : Type 0} (S : Symbol A) (p : Parser A) (v : Viable S p) (k : Kind) where
  abbrev Separately : List A → Symbol (List A)
  Separately found = λ ys ts r. (xs : List A) × (ys ≡ found ++ xs)
      × ((x : A) (start : Tokens) → S x start ts → Separated k S (x ∷ xs) start r)

  ends_separately : (found : List A) → Viable (Separately found) (pure found)
  ends_separately found = viable_pure (λ r. ([], sym (append-nil found), λ x start d. one d))

  one_more : (found : List A) (at : Span) (x : A) (q : Parser (List A)) → Viable (Separately (found ++ x ∷ [])) q
      → Viable (After S (Behind k at (Separately found)) x) q
  one_more found at x q w = viable_within (Separately (found ++ x ∷ [])) (After S (Behind k at (Separately found)) x)
      (λ ys m r s ts d. (x ∷ s.0, s.1 ∙ append_assoc found (x ∷ []) s.0, λ y start e. several e (s.2 x ts d))) q w

  separately : (n : ℕ) (found : List A) → Viable (Separately found) (separated_from k p n found)
  unfolding separated_from
  separately zero found = ends_separately found
  separately (suc n) found = viable_eat (Separately found) k _
      (λ at. viable_bind v (λ x. one_more found at x _ (separately n (found ++ x ∷ [])))) (ends_separately found)

  pub viable_separated : Viable (Separated k S) (separated k p)
  unfolding separated
  viable_separated = viable_bind v (λ x. viable_counted _ (λ n. separated_from k p n (x ∷ []))
      (λ n. viable_within (Separately (x ∷ [])) (After S (Separated k S) x)
      (λ ys m r s ts d. subst (λ (zs : List A). Separated k S zs ts r) (sym s.1) (s.2 x ts d)) _
      (separately n (x ∷ []))))

module _ {A : Type 0} (S : Symbol A) (p : Parser (Option A)) (v : Viable (Perhaps S) p) where
  abbrev Repeatedly : List A → Symbol (List A)
  Repeatedly found = λ ys ts r. (xs : List A) × (ys ≡ found ++ xs) × Many S xs ts r

  if_another : (found : List A) (f : A → Parser (List A)) → ((x : A) → Viable (Repeatedly (found ++ x ∷ [])) (f x))
      → (next : Option A) → Viable (After (Perhaps S) (Repeatedly found) next) (if_some next f (pure found))
  if_another found f h None = viable_pure (λ r ts d.
      ([], sym (append-nil found), subst (λ (z : Tokens). Many S [] ts z) d none))
  if_another found f h (Some x) = viable_within (Repeatedly (found ++ x ∷ []))
      (After (Perhaps S) (Repeatedly found) (Some x))
      (λ ys m r s ts d. (x ∷ s.0, s.1 ∙ append_assoc found (x ∷ []) s.0, more d s.2)) (f x) (h x)

  repeatedly : (n : ℕ) (found : List A) → Viable (Repeatedly found) (many_from p n found)
  unfolding many_from
  repeatedly zero found = viable_pure (λ r. ([], sym (append-nil found), none))
  repeatedly (suc n) found = viable_bind v (λ next. if_another found (λ x. many_from p n (found ++ x ∷ []))
      (λ x. repeatedly n (found ++ x ∷ [])) next)

  pub viable_many : Viable (Many S) (many p)
  unfolding many
  viable_many = viable_counted _ (λ n. many_from p n [])
      (λ n. viable_within (Repeatedly []) (Many S)
      (λ ys ts r s. subst (λ (zs : List A). Many S zs ts r) (sym s.1) s.2) _ (repeatedly n []))

module _ {A : Type 0} (S : Symbol A) (p : Parser A) (v : Viable S p) where
  begun_well : (ts : Tokens) (b : Bool) → Well (Perhaps S) ts (if b then (Some <$> p) ts else Ok (None, ts))
  begun_well ts true = (viable_map {R = Perhaps S} Some v (λ x ts r d. d)).well ts
  begun_well ts false = well_pure {S = Perhaps S} {x = None} (λ r. refl) ts

  pub viable_if_begins : (begins : Tokens → Bool) → Viable (Perhaps S) (if_begins begins p)
  unfolding if_begins
  viable_if_begins begins = record {
    well = λ ts. begun_well ts (begins ts);
    start = record {
      tokens = [];
      tree = None;
      derives = λ u. refl;
    };
  }

  pub viable_part : (word : Kind) (begins : Tokens → Bool) → Viable (IsPart word S) (part word begins p)
  unfolding part
  viable_part word begins = viable_eat (IsPart word S) word _
      (λ at. viable_bind v (λ x. viable_counted _ (λ n. many_from (if_begins begins p) n (x ∷ []))
      (λ n. goes_on at x n))) (viable_pure (λ r. without))
    where
      goes_on : (at : Span) (x : A) (n : ℕ) → Viable (After S (Behind word at (IsPart word S)) x)
          (many_from (if_begins begins p) n (x ∷ []))
      goes_on at x n = viable_within (λ ys ts r. (xs : List A) × (ys ≡ x ∷ xs) × Many S xs ts r)
          (After S (Behind word at (IsPart word S)) x)
          (λ ys m r s ts d. subst (λ (zs : List A). IsPart word S zs (token word at ∷ ts) r) (sym s.1) (filled d s.2)) _
          (repeatedly S (if_begins begins p) (viable_if_begins begins) n (x ∷ []))

module _ {A : Type 0} (S : Symbol A) (p : Parser A) (v : Viable S p) (k stop : Kind) where
  with_front : (x : A) (xs : List A) (start m r : Tokens) (at : Span) → S x start (token k at ∷ m)
      → Terminated k S xs m r → Terminated k S (x ∷ xs) start r
  with_front x xs start m r at d (exactly ds) = exactly (several d ds)
  with_front x xs start m r at d (trailing ds) = trailing (several d ds)

  abbrev Terminally : List A → Symbol (List A)
  Terminally found = λ ys ts r. (xs : List A) × (ys ≡ found ++ xs)
      × ((x : A) (start : Tokens) → S x start ts → Terminated k S (x ∷ xs) start r)

  ends_terminally : (found : List A) → Viable (Terminally found) (pure found)
  ends_terminally found = viable_pure (λ r. ([], sym (append-nil found), λ x start d. exactly (one d)))

  trails : (found : List A) (at : Span) → Viable (Behind k at (Terminally found)) (pure found)
  trails found at = viable_pure (λ r. ([], sym (append-nil found), λ x start d. trailing (one d)))

  another : (found : List A) (at : Span) (x : A) (q : Parser (List A)) → Viable (Terminally (found ++ x ∷ [])) q
      → Viable (After S (Behind k at (Terminally found)) x) q
  another found at x q w = viable_within (Terminally (found ++ x ∷ [])) (After S (Behind k at (Terminally found)) x)
      (λ ys m r s ts d. (
        x ∷ s.0,
        s.1 ∙ append_assoc found (x ∷ []) s.0,
        λ y start e. with_front y
            (x ∷ s.0) start ts r at e (s.2 x ts d),
      )) q w

  terminally : (n : ℕ) (found : List A) → Viable (Terminally found) (terminated_from k stop p n found)
  unfolding terminated_from
  terminally zero found = ends_terminally found
  terminally (suc n) found = viable_eat (Terminally found) k _
      (λ at. viable_look (Behind k at (Terminally found)) stop _ (trails found at)
      (viable_bind v (λ x. another found at x _ (terminally n (found ++ x ∷ []))))) (ends_terminally found)

  pub viable_terminated : Viable (Terminated k S) (terminated k stop p)
  unfolding terminated
  viable_terminated = viable_bind v (λ x. viable_counted _ (λ n. terminated_from k stop p n (x ∷ []))
      (λ n. viable_within (Terminally (x ∷ [])) (After S (Terminated k S) x)
      (λ ys m r s ts d. subst (λ (zs : List A). Terminated k S zs ts r) (sym s.1) (s.2 x ts d)) _
      (terminally n (x ∷ []))))

-- ---- what the next token shows about what was read before it
module _ {A B : Type 0} (S T : Symbol A) (R : Symbol B) (k : Kind) (p : Parser A) (f : A → Bool → Parser B)
    (told : (x : A) (ts r : Tokens) → p ts ≡ Ok (x, r) → sees k r ≡ true → (l m : Tokens) → S x l m → T x l m)
    (h : (x : A) (at : Span) → Viable (Behind k at (After T R x)) (f x true))
    (i : (x : A) → Viable (After S R x) (f x false)) where
  seen_then : (x : A) (ts m : Tokens) → p ts ≡ Ok (x, m) → Took S ts x m → Well R ts (and_then (eat k m) (f x))
  seen_then x ts m e w =
      elim (sees_cases k m) [
        | inl s ↦ (let seen : sees k m ≡ true = ap (sees k) s.2 ∙ same_self k in
            then_well T R x w.taken ts m w.split (λ u. told x ts m e seen (w.taken ++ u) u (w.derives u))
            (and_then (eat k m) (f x))
            (subst (λ (z : Tokens). Well (After T R x) z (and_then (eat k z) (f x))) (sym s.2)
            (subst (λ (o : Outcome B). Well (After T R x) (token k s.0 ∷ s.1) o) (sym (eat_found k s.0 s.1 (f x)))
            (after_token (After T R x) k s.0 (f x true) (h x s.0) s.1))))
        | inr s ↦ then_well S R x w.taken ts m w.split w.derives (and_then (eat k m) (f x))
            (subst (λ (o : Outcome B). Well (After S R x) m o) (sym (eat_missed k m (f x) s.0)) ((i x).well m))
      ]

  seen_well : (ts : Tokens) (o : Outcome A) → p ts ≡ o → Well S ts o → Well R ts (and_then o (λ x. eat k >>= f x))
  seen_well ts (Ok q) e w = seen_then q.0 ts q.1 e w
  seen_well ts (Err n) e w = refused_first S R (λ x. (i x).start) ts n w

  pub viable_seen : Viable S p → Viable R (p >>= (λ x. eat k >>= f x))
  viable_seen v = record {
    well = λ ts. seen_well ts (p ts) refl (v.well ts);
    start = let s = v.start in then_start S R s.tokens s.tree s.derives (i s.tree).start;
  }

-- ---- a token at the end
ends_alike : {A : Type 0} (o : Outcome A) → and_then o pure ≡ o
ends_alike (Ok q) = refl
ends_alike (Err n) = refl

pub viable_last : (R : Symbol Span) (k : Kind) → ((at : Span) (r : Tokens) → R at (token k at ∷ r) r) → Viable R
    (expect k)
viable_last R k h = let v : Viable R (expect k >>= pure) = viable_expect R k pure (λ at. viable_pure (λ r. h at r))
    in record {
      well = λ ts. subst (λ (o : Outcome Span). Well R ts o) (ends_alike (expect k ts)) (v.well ts);
      start = v.start;
    }
