-- Parentheses that come one after the other are taken at once, and closed one by one.
use Rattle.std.proofs.Common.{◌≡◌, ℕ, zero, suc, ◌+◌, ◌-◌, ◌<◌, ◌≤◌, true, false, List, [], ◌∷◌, drop, get_or, None, Ok}
use Rattle.std.proofs.Common.{Err, Result, inl, inr, refl, sym, ap, ◌∙◌, subst, arith}
use Rattle.std.specs.Result.{result_and}
use Rattle.std.proofs.lemmas.List.{drop-drop}
use Rattle.std.proofs.lemmas.Bool.{cases_Bool, cases_lt}
use Rattle.ps_text.specs.declared.Span.{Span}
use Rattle.ps_scan.specs.declared.token.Kind.TheVariants as k
use Rattle.ps_scan.specs.declared.token.Token.{Token}
use Rattle.ps_scan.specs.Kinds.{same}
use Rattle.ps_syntax.specs.declared.expression.Expr.{Expr}
use Rattle.ps_syntax.specs.declared.expression.Factor.{Factor}
use Rattle.ps_syntax.specs.declared.expression.Factor.TheVariants as f
use Rattle.ps_parse_grammar.specs.Groups.{stripped, grouped}
use Rattle.ps_parse_grammar.specs.Symbols.{Tokens, token}
use Rattle.ps_parse_grammar.proofs.Groups.{stripped_group}
use Rattle.ps_parse.specs.declared.error.ReadFailure.{ReadFailure}
use Rattle.ps_parse.specs.Steps.{Reads, Outcome, Parser, and_then, sees, after, expect, ◌>>=◌, ◌>>◌, pure}
use Rattle.ps_parse.specs.ReadExpressions.{sees_operator, eat_operator, group, factor, term_from, term, simple_from}
use Rattle.ps_parse.specs.ReadExpressions.{simple, compared_from, compared, expr_after, parentheses, read_expr}
use Rattle.ps_parse.specs.ReadExpressions.{read_factor}
use Rattle.ps_parse.proofs.Closed.{closed as closed_by}
use Rattle.ps_parse.proofs.Exact.{same_is}
use Rattle.ps_parse.proofs.Sides.{lone_factor}
use Rattle.ps_parse.proofs.Innermost.{behind_operator, innermost}

-- what is read after an expression of which some parentheses are known, where as many of the first tokens are open
unfoldable pub close : ℕ → Span → Tokens → Token → ℕ → ℕ × Expr → Parser Factor
close n at ts t zero p = expect k.RightParen >> pure (f.Group at p.0 p.1)
close n at ts t (suc i) p = expect k.RightParen >>
    (expr_after (read_factor (n - suc i)) None (f.Group (get_or ts i t).span p.0 p.1)
    >>= (λ x. close n at ts t i (stripped x)))

-- ---- an expression that begins with a parenthesis

after_factor : (F : Parser Factor) (o : Outcome Factor) → and_then
    (and_then (and_then o (term_from F)) (simple_from (term F) None)) (compared_from (simple (term F))) ≡ and_then o
    (expr_after F None)
after_factor F (Err n) = refl
after_factor F (Ok p) = refl

read_open : (n : ℕ) (at : Span) (r : Tokens) → read_expr (suc n) (token k.LeftParen at ∷ r) ≡ and_then
    (group (read_expr n) at r) (expr_after (read_factor n) None)
unfolding read_expr compared simple term factor eat_operator
read_open n at r = after_factor (read_factor n) (group (read_expr n) at r)

close_turn : (n i : ℕ) (at : Span) (ts : Tokens) (t : Token) (x : Expr) (o : Outcome Span) → and_then
    (and_then (and_then o (λ _. pure (grouped (get_or ts i t).span x))) (expr_after (read_factor (n - suc i)) None))
    (λ y. close n at ts t i (stripped y))
    ≡ and_then o (λ _. expr_after (read_factor (n - suc i)) None
    (f.Group (get_or ts i t).span (stripped x).0 (stripped x).1) >>= (λ y. close n at ts t i (stripped y)))
unfolding grouped
close_turn n i at ts t x (Err l) = refl
close_turn n i at ts t x (Ok p) = refl

open_turn : (n i : ℕ) (at : Span) (ts : Tokens) (t : Token) (o : Outcome Expr) → and_then
    (and_then (and_then o (λ x. expect k.RightParen >> pure (grouped (get_or ts i t).span x)))
    (expr_after (read_factor (n - suc i)) None)) (λ x. close n at ts t i (stripped x))
    ≡ and_then o (λ x. close n at ts t (suc i) (stripped x))
unfolding close
open_turn n i at ts t (Err l) = refl
open_turn n i at ts t (Ok p) = close_turn n i at ts t p.0 (expect k.RightParen p.1)

-- ---- all that come next are taken

-- in the place of tokens that aren't there
abbrev pub nowhere : Token
nowhere = token k.Name (record { from = 0; to = 0 })

one_taken : (n : ℕ) (ts : Tokens) → sees k.LeftParen ts ≡ true
    → (parentheses (suc n) ts ≡ suc (parentheses n (after k.LeftParen ts))) × (after k.LeftParen ts ≡ drop 1 ts)
unfolding parentheses
one_taken n [] h = cc
one_taken n (t ∷ ts) h = (rw h refl, rw h refl)

none_taken : (n : ℕ) (ts : Tokens) → sees k.LeftParen ts ≡ false → (parentheses n ts ≡ 0) × (after k.LeftParen ts ≡ ts)
unfolding parentheses
none_taken zero [] h = (refl, refl)
none_taken zero (t ∷ ts) h = (refl, rw h refl)
none_taken (suc n) [] h = (refl, refl)
none_taken (suc n) (t ∷ ts) h = (rw h refl, rw h refl)

-- `count` of them were taken, and what comes after
pub record Taken (most : ℕ) (ts : Tokens) (count : ℕ) (r : Tokens) : Type 0 where
  pub left : r ≡ drop count ts
  pub number : parentheses most ts ≡ count + parentheses (most - count) r

pub nothing_taken : (most : ℕ) (ts : Tokens) → Taken most ts 0 ts
nothing_taken most ts = let whole : most ≡ most - 0 = omega arith in record {
  left = refl;
  number = ap (λ (m : ℕ). parentheses m ts) whole ∙ omega arith;
}

pub next_taken : (most count : ℕ) (ts r : Tokens) → Taken most ts count r → count < most → sees k.LeftParen r ≡ true
    → Taken most ts (count + 1) (after k.LeftParen r)
next_taken most count ts r taken below h =
    let turn : most - count ≡ suc (most - (count + 1)) = omega arith in
    let one = one_taken (most - (count + 1)) r h in
    let left : parentheses (most - count) r ≡ parentheses
    (suc (most - (count + 1))) r = ap (λ (m : ℕ). parentheses m r) turn in
    record {
      left = one.1 ∙ ap (λ (q : Tokens). drop 1 q) taken.left ∙ drop-drop 1 count ts;
      number = omega (arith, taken.number, left, one.0);
    }

pub last_taken : (most count : ℕ) (ts r : Tokens) → Taken most ts count r → sees k.LeftParen r ≡ false
    → (count ≡ parentheses most ts) × (after k.LeftParen r ≡ drop count ts)
last_taken most count ts r taken h =
    let none = none_taken (most - count) r h in
    (omega (arith, taken.number, none.0), none.1 ∙ taken.left)

pub all_taken : (most : ℕ) (ts r : Tokens) → Taken most ts most r → (most ≡ parentheses most ts) × (r ≡ drop most ts)
unfolding parentheses
all_taken most ts r taken =
    let none : most - most ≡ 0 = omega arith in
    let left : parentheses (most - most) r ≡ 0 = ap (λ (m : ℕ). parentheses m r) none in
    (omega (arith, taken.number, left), taken.left)

taken_run : (n most : ℕ) (ts : Tokens) → n ≤ most → ((i : ℕ) → i < n → sees k.LeftParen (drop i ts) ≡ true)
    → Taken most ts n (drop n ts)
taken_run zero most ts le run = nothing_taken most ts
taken_run (suc n) most ts le run =
    let before = taken_run n most ts (omega arith) (λ i below. run i (omega arith)) in
    let here = run n (omega arith) in
    let next = next_taken most n ts (drop n ts) before (omega arith) here in
    let after_it : after k.LeftParen (drop n ts) ≡ drop (n + 1) ts = (one_taken 0 (drop n ts) here).1
    ∙ drop-drop 1 n ts in
    let count : n + 1 ≡ suc n = omega arith in
    subst (λ (j : ℕ). Taken most ts j (drop j ts)) count (subst (Taken most ts (n + 1)) after_it next)

-- a longest run of them is all that come next
pub run_taken : (n most : ℕ) (ts : Tokens) → n ≤ most → ((i : ℕ) → i < n → sees k.LeftParen (drop i ts) ≡ true)
    → (n < most → sees k.LeftParen (drop n ts) ≡ false) → n ≡ parentheses most ts
run_taken n most ts le run end =
    let taken = taken_run n most ts le run in
    elim (cases_lt n most) [
      | inl below ↦ (last_taken most n ts (drop n ts) taken (end below)).0
      | inr past ↦ (let whole : n ≡ most = omega arith in
          whole ∙ (all_taken most ts (drop n ts) (subst (λ (j : ℕ). Taken most ts j (drop n ts)) whole taken)).0)
    ]

-- what is read where i of them are open
abbrev pub opened : ℕ → Span → Tokens → Token → ℕ → Outcome Factor
opened n at ts t i = and_then (read_expr (n - i) (drop i ts)) (λ x. close n at ts t i (stripped x))

drop_here : {A : Type 0} (i : ℕ) (xs ys : List A) (x d : A) → drop i xs ≡ x ∷ ys → (get_or xs i d ≡ x)
    × (drop (suc i) xs ≡ ys)
drop_here zero [] ys x d h = cc
drop_here (suc i) [] ys x d h = cc
drop_here zero (z ∷ zs) ys x d h = let first : z ≡ x = cc in let more : zs ≡ ys = cc in (first, more)
drop_here (suc i) (z ∷ zs) ys x d h = drop_here i zs ys x d h

one_opened : (n i : ℕ) (at : Span) (ts r : Tokens) (t : Token) → i < n → drop i ts ≡ token k.LeftParen
    (get_or ts i t).span ∷ r → drop (suc i) ts ≡ r → opened n at ts t i ≡ opened n at ts t (suc i)
unfolding group
one_opened n i at ts r t below here next =
    let level : n - i ≡ suc (n - suc i) = omega arith in
    ap (λ (l : ℕ). and_then (read_expr l (drop i ts)) (λ x. close n at ts t i (stripped x))) level
    ∙ ap (λ (q : Tokens). and_then (read_expr (suc (n - suc i)) q) (λ x. close n at ts t i (stripped x))) here
    ∙ ap (λ (o : Outcome Expr). and_then o (λ x. close n at ts t i (stripped x)))
    (read_open (n - suc i) (get_or ts i t).span r)
    ∙ open_turn n i at ts t (read_expr (n - suc i) r)
    ∙ ap (λ (q : Tokens). and_then (read_expr (n - suc i) q) (λ x. close n at ts t (suc i) (stripped x))) (sym next)

from_here : (m n i : ℕ) (at : Span) (ts us : Tokens) (t : Token) → i + m ≤ n → drop i ts ≡ us → opened n at ts t i
    ≡ opened n at ts t (i + parentheses m us)
unfolding parentheses
from_here zero n i at ts us t le h = let stay : i ≡ i + 0 = omega arith in ap (opened n at ts t) stay
from_here (suc m) n i at ts [] t le h = let stay : i ≡ i + 0 = omega arith in ap (opened n at ts t) stay
from_here (suc m) n i at ts (u ∷ us) t le h =
    let here = drop_here i ts us u t h in
    elim (cases_Bool (same u.kind k.LeftParen)) [
      | inl is ↦ (let now = h ∙ ap (λ q. token q u.span ∷ us) (same_is u.kind k.LeftParen is)
          ∙ ap (λ (q : Token). token k.LeftParen q.span ∷ us) (sym here.0) in
          let more : parentheses (suc m) (u ∷ us) ≡ suc (parentheses m us) = rw is refl in
          let count : suc i + parentheses m us ≡ i + parentheses (suc m) (u ∷ us) = omega (arith, more) in
          one_opened n i at ts us t (omega (arith, le)) now here.1
          ∙ from_here m n (suc i) at ts us t (omega (arith, le)) here.1
          ∙ ap (opened n at ts t) count)
      | inr other ↦ (let none : parentheses (suc m) (u ∷ us) ≡ 0 = rw other refl in
          let stay : i ≡ i + parentheses (suc m) (u ∷ us) = omega (arith, none) in
          ap (opened n at ts t) stay)
    ]

at_first : (n : ℕ) (at : Span) (ts : Tokens) (t : Token) (o : Outcome Expr) → and_then o
    (λ x. expect k.RightParen >> pure (grouped at x)) ≡ and_then o (λ x. close n at ts t 0 (stripped x))
unfolding grouped close
at_first n at ts t o = refl

pub all_opened : (n : ℕ) (at : Span) (ts : Tokens) (t : Token) → group (read_expr n) at ts ≡ opened n at ts t
    (parentheses n ts)
unfolding group
all_opened n at ts t =
    let whole : n ≡ n - 0 = omega arith in
    let count : 0 + parentheses n ts ≡ parentheses n ts = omega arith in
    at_first n at ts t (read_expr n ts)
    ∙ ap (λ (l : ℕ). and_then (read_expr l ts) (λ x. close n at ts t 0 (stripped x))) whole
    ∙ from_here n n 0 at ts ts t (omega arith) refl
    ∙ ap (opened n at ts t) count

-- ---- closing

-- what a group is, of which some parentheses were opened and some of these closed
module _ (n : ℕ) (at : Span) (ts : Tokens) (t : Token) (o c m : ℕ) (x : Expr) (g : Outcome Factor) (r : Tokens)
    (is : g ≡ close n at ts t (o - c) (m, x) r) where
  last_level : o ≤ c → g ≡ and_then (expect k.RightParen r) (λ _. pure (f.Group at m x))
  unfolding close
  last_level done = let none : o - c ≡ 0 = omega arith in is ∙ ap (λ (i : ℕ). close n at ts t i (m, x) r) none

  pub last_ends : (end : Result Span ReadFailure) (r' : Tokens) → o ≤ c → Reads (expect k.RightParen r) end r' → Reads g
      (result_and end (Ok (f.Group at m x))) r'
  last_ends end r' done h = subst (λ (z : Outcome Factor). Reads z (result_and end (Ok (f.Group at m x))) r')
      (sym (last_level done)) (closed_by (expect k.RightParen r) end (f.Group at m x) r' h)

  -- the expression that begins with the parenthesis of this turn, after it
  abbrev pub behind : Tokens → Outcome Expr
  behind r' = expr_after (read_factor (n - (o - c - 1) - 1)) None (f.Group (get_or ts (o - c - 1) t).span m x) r'

  level : c < o → g ≡ and_then (expect k.RightParen r)
      (λ _ q. and_then (behind q) (λ y. close n at ts t (o - (c + 1)) (stripped y)))
  unfolding close
  level below =
      let turn : o - c ≡ suc (o - c - 1) = omega arith in
      let depth : n - suc (o - c - 1) ≡ n - (o - c - 1) - 1 = omega arith in
      let next : o - c - 1 ≡ o - (c + 1) = omega arith in
      is ∙ ap (λ (i : ℕ). close n at ts t i (m, x) r) turn
      ∙ ap (λ (d : ℕ). and_then (expect k.RightParen r)
      (λ _ q. and_then (expr_after (read_factor d) None (f.Group (get_or ts (o - c - 1) t).span m x) q)
      (λ y. close n at ts t (o - c - 1) (stripped y)))) depth
      ∙ ap (λ (i : ℕ). and_then (expect k.RightParen r)
      (λ _ q. and_then (behind q) (λ y. close n at ts t i (stripped y)))) next

  pub turn_refused : {P : Type 0} (l : ℕ) → c < o → (P → expect k.RightParen r ≡ Err l) → P → g ≡ Err l
  turn_refused l below h some = level below ∙ ap (λ (p : Outcome Span). and_then p
      (λ _ q. and_then (behind q) (λ y. close n at ts t (o - (c + 1)) (stripped y)))) (h some)

  module _ (s : Span) (r' : Tokens) (below : c < o) (h : expect k.RightParen r ≡ Ok (s, r')) where
    closed : g ≡ and_then (behind r') (λ y. close n at ts t (o - (c + 1)) (stripped y))
    closed = level below ∙ ap (λ (p : Outcome Span). and_then p
        (λ _ q. and_then (behind q) (λ y. close n at ts t (o - (c + 1)) (stripped y)))) h

    -- no operator follows
    pub turn_alone : sees_operator r' ≡ false → g ≡ close n at ts t (o - (c + 1)) (m + 1, x) r'
    turn_alone last =
        let left = (get_or ts (o - c - 1) t).span in
        let count : suc m ≡ m + 1 = omega arith in
        closed
        ∙ ap (λ (p : Outcome Expr). and_then p (λ y. close n at ts t (o - (c + 1)) (stripped y)))
        (lone_factor (read_factor (n - (o - c - 1) - 1)) None (f.Group left m x) r' last)
        ∙ ap (λ (p : ℕ × Expr). close n at ts t (o - (c + 1)) p r') (stripped_group left m x)
        ∙ ap (λ (j : ℕ). close n at ts t (o - (c + 1)) (j, x) r') count

    -- one follows
    pub turn_behind : (y : Expr) (l : Tokens) → sees_operator r' ≡ true → behind r' ≡ Ok (y, l) → g ≡ close n at ts t
        (o - (c + 1)) (0, y) l
    turn_behind y l some e =
        closed
        ∙ ap (λ (p : Outcome Expr). and_then p (λ z. close n at ts t (o - (c + 1)) (stripped z))) e
        ∙ ap (λ (p : ℕ × Expr). close n at ts t (o - (c + 1)) p l)
        (behind_operator (read_factor (n - (o - c - 1) - 1))
        (f.Group (get_or ts (o - c - 1) t).span m x) r' y l some e)

    pub behind_refused : {P : Type 0} (l : ℕ) → (P → behind r' ≡ Err l) → P → g ≡ Err l
    behind_refused l e some = closed ∙ ap (λ (p : Outcome Expr). and_then p
        (λ z. close n at ts t (o - (c + 1)) (stripped z))) (e some)

-- what a group is, of which some parentheses were opened
module _ (n : ℕ) (at : Span) (ts : Tokens) (t : Token) (o : ℕ) (r : Tokens) (count : o ≡ parentheses n ts)
    (rest : r ≡ drop o ts) where
  begun_at : group (read_expr n) at ts ≡ and_then (read_expr (n - o) r) (λ x. close n at ts t o (stripped x))
  begun_at =
      all_opened n at ts t
      ∙ ap (opened n at ts t) (sym count)
      ∙ ap (λ (q : Tokens). and_then (read_expr (n - o) q) (λ x. close n at ts t o (stripped x))) (sym rest)

  pub group_refused : {P : Type 0} (l : ℕ) → (P → read_expr (n - o) r ≡ Err l) → P → group (read_expr n) at ts ≡ Err l
  group_refused l h some = begun_at ∙ ap (λ (p : Outcome Expr). and_then p (λ x. close n at ts t o (stripped x)))
      (h some)

  pub group_begun : (x : Expr) (m : Tokens) → read_expr (n - o) r ≡ Ok (x, m) → group (read_expr n) at ts
      ≡ close n at ts t (o - 0) (0, x) m
  group_begun x m h =
      let whole : o ≡ o - 0 = omega arith in
      let here : read_expr (n - parentheses n ts) (drop (parentheses n ts) ts) ≡ Ok
      (x, m) = ap (λ (j : ℕ). read_expr (n - j) (drop j ts)) (sym count) ∙ ap (read_expr (n - o)) (sym rest) ∙ h in
      begun_at
      ∙ ap (λ (p : Outcome Expr). and_then p (λ y. close n at ts t o (stripped y))) h
      ∙ ap (λ (p : ℕ × Expr). close n at ts t o p m) (innermost n ts x m here)
      ∙ ap (λ (j : ℕ). close n at ts t j (0, x) m) whole

-- ---- closing parentheses directly behind one another

closing_taken : (ts : Tokens) → sees k.RightParen ts ≡ true →
    (at : Span) × (expect k.RightParen ts ≡ Ok (at, drop 1 ts))
unfolding expect
closing_taken [] h = cc
closing_taken (t ∷ ts) h = (t.span, rw h refl)

closing_ends : (ts : Tokens) → sees k.RightParen ts ≡ true → sees_operator ts ≡ false
closing_ends [] h = refl
closing_ends (t ∷ ts) h = rw (same_is t.kind k.RightParen h) refl

-- what a group is, of which r parentheses were closed that have another one behind them
pub closed_begun : (r n : ℕ) (at : Span) (ts : Tokens) (t : Token) (o : ℕ) (x : Expr) (g : Outcome Factor) (m : Tokens)
    → g ≡ close n at ts t (o - 0) (0, x) m → r ≤ o
    → ((i : ℕ) → i < r → (sees k.RightParen (drop i m) ≡ true) × (sees k.RightParen (drop (i + 1) m) ≡ true))
    → g ≡ close n at ts t (o - r) (r, x) (drop r m)
closed_begun zero n at ts t o x g m begun le run = begun
closed_begun (suc r) n at ts t o x g m begun le run =
    let before = closed_begun r n at ts t o x g m begun (omega arith) (λ i below. run i (omega arith)) in
    let here = run r (omega arith) in
    let taken = closing_taken (drop r m) here.0 in
    let read : expect k.RightParen (drop r m) ≡ Ok (taken.0, drop (r + 1) m) = taken.1
    ∙ ap (λ (q : Tokens). Ok (taken.0, q)) (drop-drop 1 r m) in
    let next = turn_alone n at ts t o r r x g (drop r m) before taken.0 (drop (r + 1) m) (omega arith) read
    (closing_ends (drop (r + 1) m) here.1) in
    let count : r + 1 ≡ suc r = omega arith in
    subst (λ (j : ℕ). g ≡ close n at ts t (o - j) (j, x) (drop j m)) count next
