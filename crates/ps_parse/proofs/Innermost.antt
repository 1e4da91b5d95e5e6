-- The expression in the innermost of parentheses that come one after the other: it isn't itself in parentheses.
use Rattle.std.proofs.Common.{◌≡◌, ℕ, zero, suc, ◌-◌, ◌<◌, ◌≤◌, Bool, true, false, List, [], ◌∷◌, ◌++◌, length}
use Rattle.std.proofs.Common.{drop, Option, Some, None, Ok, Err, ◌⊎◌, inl, inr, refl, sym, ap, ◌∙◌, subst, arith}
use Rattle.std.proofs.lemmas.Bool.{cases_Bool}
use Rattle.ps_text.specs.declared.Span.{Span}
use Rattle.ps_scan.specs.declared.token.Kind.{Kind}
use Rattle.ps_scan.specs.declared.token.Kind.TheVariants as k
use Rattle.ps_scan.specs.declared.token.Token.{Token}
use Rattle.ps_scan.specs.Kinds.{same}
use Rattle.ps_syntax.specs.declared.expression.Multiplying.{Multiplying}
use Rattle.ps_syntax.specs.declared.expression.Adding.{Adding}
use Rattle.ps_syntax.specs.declared.expression.Relational.{Relational}
use Rattle.ps_syntax.specs.declared.expression.Expr.{Expr}
use Rattle.ps_syntax.specs.declared.expression.Expr.TheVariants as e
use Rattle.ps_syntax.specs.declared.expression.Simple.{Simple, roll-Simple}
use Rattle.ps_syntax.specs.declared.expression.AddedTerm.{AddedTerm, roll-AddedTerm}
use Rattle.ps_syntax.specs.declared.expression.Term.{Term, roll-Term}
use Rattle.ps_syntax.specs.declared.expression.MultipliedFactor.{MultipliedFactor}
use Rattle.ps_syntax.specs.declared.expression.Factor.{Factor}
use Rattle.ps_parse_grammar.specs.Groups.{inside, stripped}
use Rattle.ps_parse_grammar.specs.Symbols.{Tokens, token}
use Rattle.ps_parse_grammar.proofs.Groups.{inside_compare, inside_added, inside_multiplied, within_begins}
use Rattle.ps_parse_grammar.proofs.Groups.{stripped_none}
use Rattle.ps_parse.specs.Steps.{Outcome, Parser, and_then, if_some, sees, many, many_from, ◌<$>◌, pure}
use Rattle.ps_parse.specs.ReadExpressions.{multiplying_of, adding_of, relation_of, is_operator, sees_operator}
use Rattle.ps_parse.specs.ReadExpressions.{eat_operator, multiplied, term_from, term, added, simple}
use Rattle.ps_parse.specs.ReadExpressions.{compared_from, simple_after, expr_after, parentheses, read_expr}
use Rattle.ps_parse.proofs.Exact.{both_steps, first_part, second_part}
use Rattle.ps_parse.proofs.ExactExpressions.{expr_exact_within}

-- ---- the innermost expression isn't in parentheses as a whole

pub open_bounds : (n : ℕ) (ts : Tokens) → (parentheses n ts ≤ n) × (parentheses n ts ≤ length ts)
unfolding parentheses
open_bounds zero ts = (omega arith, omega arith)
open_bounds (suc n) [] = (omega arith, omega arith)
open_bounds (suc n) (t ∷ ts) =
    let inner = open_bounds n ts in
    elim (cases_Bool (same t.kind k.LeftParen)) [
      | inl is ↦ (let more : parentheses (suc n) (t ∷ ts) ≡ suc (parentheses n ts) = rw is refl
          in (omega (arith, more, inner.0), omega (arith, more, inner.1)))
      | inr other ↦ (let none : parentheses (suc n) (t ∷ ts) ≡ 0 = rw other refl
          in (omega (arith, none), omega (arith, none)))
    ]

stopped : (n : ℕ) (ts : Tokens) → parentheses n ts < n → sees k.LeftParen (drop (parentheses n ts) ts) ≡ false
unfolding parentheses
stopped zero ts h = absurd (omega (arith, h))
stopped (suc n) [] h = refl
stopped (suc n) (t ∷ ts) h =
    elim (cases_Bool (same t.kind k.LeftParen)) [
      | inl is ↦ (let more : parentheses (suc n) (t ∷ ts) ≡ suc (parentheses n ts) = rw is refl in
          ap (λ (m : ℕ). sees k.LeftParen (drop m (t ∷ ts))) more ∙ stopped n ts (omega (arith, h, more)))
      | inr other ↦ (let none : parentheses (suc n) (t ∷ ts) ≡ 0 = rw other refl
          in ap (λ (m : ℕ). sees k.LeftParen (drop m (t ∷ ts))) none ∙ other)
    ]

sees_token : (at : Span) (m : Tokens) → sees k.LeftParen (token k.LeftParen at ∷ m) ≡ true
unfolding same
sees_token at m = refl

true_false : {X : Type 0} {b : Bool} → b ≡ true → b ≡ false → X
true_false h h' = cc

unopened : (n : ℕ) (ts : Tokens) (x : Expr) (m : Tokens) → read_expr n ts ≡ Ok (x, m) → sees k.LeftParen ts ≡ false
    → (p : Option (ℕ × Expr)) → inside x ≡ p → inside x ≡ None
unopened n ts x m h other None is = is
unopened n ts x m h other (Some p) is =
    let begins = within_begins n x ts m ((expr_exact_within n).sound ts x m h) p is in
    true_false (ap (sees k.LeftParen) begins.2 ∙ sees_token begins.0 begins.1) other

innermost_by : (n l : ℕ) (ts : Tokens) (x : Expr) (m : Tokens) → n - parentheses n ts ≡ l → read_expr l
    (drop (parentheses n ts) ts) ≡ Ok (x, m) → stripped x ≡ (0, x)
unfolding read_expr
innermost_by n zero ts x m e h = cc
innermost_by n (suc l) ts x m e h = stripped_none x
    (unopened (suc l) (drop (parentheses n ts) ts) x m h (stopped n ts (omega (arith, e))) (inside x) refl)

pub innermost : (n : ℕ) (ts : Tokens) (x : Expr) (m : Tokens) → read_expr (n - parentheses n ts)
    (drop (parentheses n ts) ts) ≡ Ok (x, m) → stripped x ≡ (0, x)
innermost n ts x m h = innermost_by n (n - parentheses n ts) ts x m refl h

-- ---- nor is one that continues after its first factor

option_cases : {A : Type 0} (o : Option A) → (o ≡ None) ⊎ ((x : A) × (o ≡ Some x))
option_cases None = inl refl
option_cases (Some x) = inr (x, refl)

-- a list that isn't empty stays so
filled_next : {A : Type 0} (p : Parser (Option A)) (n : ℕ) (a : A) (found : List A) (o : Option A) (m : Tokens)
    (xs : List A) (r : Tokens) → if_some o (λ x. many_from p n (a ∷ (found ++ x ∷ []))) (pure (a ∷ found)) m ≡ Ok
    (xs, r) → ((more : List A) → many_from p n (a ∷ more) m ≡ Ok (xs, r) → (y : A) × (ys : List A) × (xs ≡ y ∷ ys))
    → (y : A) × (ys : List A) × (xs ≡ y ∷ ys)
filled_next p n a found None m xs r h ih = (a, found, sym (first_part (a ∷ found) xs m r h))
filled_next p n a found (Some x) m xs r h ih = ih (found ++ x ∷ []) h

filled : {A : Type 0} (p : Parser (Option A)) (n : ℕ) (a : A) (found : List A) (ts : Tokens) (xs : List A) (r : Tokens)
    → many_from p n (a ∷ found) ts ≡ Ok (xs, r) → (y : A) × (ys : List A) × (xs ≡ y ∷ ys)
unfolding many_from
filled p zero a found ts xs r h = (a, found, sym (first_part (a ∷ found) xs ts r h))
filled p (suc n) a found ts xs r h = let b = both_steps (p ts) _ xs r h in filled_next p n a found b.0 b.1 xs r b.3
    (λ more e. filled p n a more b.1 xs r e)

begun_next : {A : Type 0} (p : Parser (Option A)) (n : ℕ) (o : Option A) (m : Tokens) (xs : List A) (r : Tokens)
    → (o ≡ None → ⊥) → if_some o (λ x. many_from p n (x ∷ [])) (pure []) m ≡ Ok (xs, r) → (y : A) × (ys : List A)
    × (xs ≡ y ∷ ys)
begun_next p n None m xs r some h = absurd (some refl)
begun_next p n (Some x) m xs r some h = filled p n x [] m xs r h

begun : {A : Type 0} (p : Parser (Option A)) (t : Token) (ts : Tokens) (xs : List A) (r : Tokens)
    → ((o : Option A) (m : Tokens) → p (t ∷ ts) ≡ Ok (o, m) → o ≡ None → ⊥) → many p (t ∷ ts) ≡ Ok (xs, r) → (y : A)
    × (ys : List A) × (xs ≡ y ∷ ys)
unfolding many many_from
begun p t ts xs r some h = let b = both_steps (p (t ∷ ts)) _ xs r h in begun_next p (length ts) b.0 b.1 xs r
    (some b.0 b.1 b.2) b.3

some_none : {A : Type 0} {x : A} → Some x ≡ None → ⊥
some_none h = cc

-- where an item was begun, one is returned
is_answered : {A B : Type 0} (q : Outcome A) (g : A → B) (o : Option B) (m : Tokens) → and_then q
    (λ x. pure (Some (g x))) ≡ Ok (o, m) → o ≡ None → ⊥
is_answered (Err n) g o m h none = cc
is_answered (Ok p) g None m h none = some_none (first_part (Some (g p.0)) None p.1 m h)
is_answered (Ok p) g (Some x) m h none = cc

multiplied_found : (F : Parser Factor) (op : Multiplying) (t : Token) (ts : Tokens) → multiplying_of t.kind ≡ Some op
    → multiplied F (t ∷ ts) ≡ and_then (F ts) (λ x. pure (Some (record {
      operator = op;
      at = t.span;
      factor = x;
    })))
unfolding multiplied eat_operator
multiplied_found F op t ts is = rw is refl

multiplied_missed : (F : Parser Factor) (t : Token) (ts : Tokens) → multiplying_of t.kind ≡ None → many (multiplied F)
    (t ∷ ts) ≡ Ok ([], t ∷ ts)
unfolding many many_from multiplied eat_operator
multiplied_missed F t ts is = rw is refl

added_found : (T : Parser Term) (op : Adding) (t : Token) (ts : Tokens) → adding_of t.kind ≡ Some op → added T (t ∷ ts)
    ≡ and_then (T ts) (λ x. pure (Some (roll-AddedTerm (record {
      operator = op;
      at = t.span;
      term = x;
    }))))
unfolding added eat_operator
added_found T op t ts is = rw is refl

added_missed : (T : Parser Term) (t : Token) (ts : Tokens) → adding_of t.kind ≡ None → many (added T) (t ∷ ts) ≡ Ok
    ([], t ∷ ts)
unfolding many many_from added eat_operator
added_missed T t ts is = rw is refl

relation_found : (op : Relational) (t : Token) (ts m : Tokens) → relation_of t.kind ≡ Some op → eat_operator relation_of
    (t ∷ ts) ≡ Ok (None, m) → ⊥
unfolding eat_operator
relation_found op t ts m is h = let found : eat_operator relation_of (t ∷ ts) ≡ Ok (Some (op, t.span), ts) = rw is refl
    in some_none (first_part (Some (op, t.span)) None ts m (sym found ∙ h))

not_filled : {A : Type 0} (y : A) (ys : List A) → [] ≡ y ∷ ys → ⊥
not_filled y ys h = cc

no_factors : (F : Parser Factor) (t : Token) (ts m : Tokens) → many (multiplied F) (t ∷ ts) ≡ Ok ([], m)
    → (multiplying_of t.kind ≡ None) × (m ≡ t ∷ ts)
no_factors F t ts m h =
    elim (option_cases (multiplying_of t.kind)) [
      | inl none ↦ (none, sym (second_part [] [] (t ∷ ts) m (sym (multiplied_missed F t ts none) ∙ h)))
      | inr some ↦ (let l = begun (multiplied F) t ts [] m
          (λ o r q. is_answered (F ts) _ o r (sym (multiplied_found F some.0 t ts some.1) ∙ q)) h in absurd
          (not_filled l.0 l.1 l.2))
    ]

no_terms : (T : Parser Term) (t : Token) (ts m : Tokens) → many (added T) (t ∷ ts) ≡ Ok ([], m)
    → (adding_of t.kind ≡ None) × (m ≡ t ∷ ts)
no_terms T t ts m h =
    elim (option_cases (adding_of t.kind)) [
      | inl none ↦ (none, sym (second_part [] [] (t ∷ ts) m (sym (added_missed T t ts none) ∙ h)))
      | inr some ↦ (let l = begun (added T) t ts [] m
          (λ o r q. is_answered (T ts) _ o r (sym (added_found T some.0 t ts some.1) ∙ q)) h in absurd
          (not_filled l.0 l.1 l.2))
    ]

no_relation : (t : Token) (ts m : Tokens) → eat_operator relation_of (t ∷ ts) ≡ Ok (None, m) → relation_of t.kind ≡ None
no_relation t ts m h = elim (option_cases (relation_of t.kind))
    [ inl none ↦ none | inr some ↦ absurd (relation_found some.0 t ts m some.1 h) ]

no_operator : (kind : Kind) → multiplying_of kind ≡ None → adding_of kind ≡ None → relation_of kind ≡ None
    → is_operator kind ≡ false
no_operator kind a b c = rw (a, b, c) refl

goes_on : (F : Parser Factor) (t : Token) (ts : Tokens) (x : Factor) (xs : List MultipliedFactor) (m : Tokens)
    (ys : List AddedTerm) (l r : Tokens) → is_operator t.kind ≡ true → many (multiplied F) (t ∷ ts) ≡ Ok (xs, m) → many
    (added (term F)) m ≡ Ok (ys, l) → eat_operator relation_of l ≡ Ok (None, r)
    → inside (e.Simple (roll-Simple (record {
      sign = None;
      first = roll-Term (record {
        first = x;
        more = xs;
      });
      more = ys;
    }))) ≡ None
goes_on F t ts x xs m (z ∷ zs) l r is h h' h'' = inside_added (roll-Term (record { first = x; more = xs })) z zs
goes_on F t ts x (z ∷ zs) m [] l r is h h' h'' = inside_multiplied x z zs
goes_on F t ts x [] m [] l r is h h' h'' =
    let factors = no_factors F t ts m h in
    let terms = no_terms (term F) t ts l (subst (λ q. many (added (term F)) q ≡ Ok ([], l)) factors.1 h') in
    let relations = no_relation t ts r (subst (λ q. eat_operator relation_of q ≡ Ok (None, r)) terms.1 h'') in
    true_false is (no_operator t.kind factors.0 terms.0 relations)

compared_or : (F : Parser Factor) (t : Token) (ts : Tokens) (x : Factor) (xs : List MultipliedFactor) (m : Tokens)
    (ys : List AddedTerm) (l : Tokens) (op : Option (Relational × Span)) (n : Tokens) (y : Expr) (r : Tokens)
    → is_operator t.kind ≡ true → many (multiplied F) (t ∷ ts) ≡ Ok (xs, m) → many (added (term F)) m ≡ Ok (ys, l)
    → eat_operator relation_of l ≡ Ok (op, n)
    → if_some op (λ o. e.Compare (roll-Simple (record {
      sign = None;
      first = roll-Term (record {
        first = x;
        more = xs;
      });
      more = ys;
    })) o.0 o.1 <$> simple (term F)) (pure (e.Simple (roll-Simple (record {
      sign = None;
      first = roll-Term (record {
        first = x;
        more = xs;
      });
      more = ys;
    })))) n ≡ Ok (y, r) → inside y ≡ None
compared_or F t ts x xs m ys l None n y r is h h' h'' q = subst (λ z. inside z ≡ None) (first_part _ y n r q)
    (goes_on F t ts x xs m ys l n is h h' h'')
compared_or F t ts x xs m ys l (Some o) n y r is h h' h'' q = let b = both_steps (simple (term F) n) _ y r q in subst
    (λ z. inside z ≡ None) (first_part _ y b.1 r b.3) (inside_compare _ o.0 o.1 b.0)

simple_or : (F : Parser Factor) (t : Token) (ts : Tokens) (x : Factor) (s : Simple) (l : Tokens) (y : Expr) (r : Tokens)
    → is_operator t.kind ≡ true → simple_after F None x (t ∷ ts) ≡ Ok (s, l) → compared_from (simple (term F)) s l ≡ Ok
    (y, r) → inside y ≡ None
simple_or F t ts x s l y r is h q =
    let b = both_steps (term_from F x (t ∷ ts)) _ s l h in
    let c = both_steps (many (multiplied F) (t ∷ ts)) _ b.0 b.1 b.2 in
    let d = both_steps (many (added (term F)) b.1) _ s l b.3 in
    let first : roll-Term (record { first = x; more = c.0 }) ≡ b.0 = first_part _ b.0 c.1 b.1 c.3 in
    let left : roll-Simple (record { sign = None; first = b.0; more = d.0 }) ≡ s = first_part _ s d.1 l d.3 in
    let whole : roll-Simple (record {
      sign = None;
      first = roll-Term (record {
        first = x;
        more = c.0;
      });
      more = d.0;
    }) ≡ s = ap (λ (z : Term). roll-Simple (record {
      sign = None;
      first = z;
      more = d.0;
    })) first ∙ left in
    let g = both_steps (eat_operator relation_of l) _ y r
    (subst (λ z. compared_from (simple (term F)) z l ≡ Ok (y, r)) (sym whole) q) in
    compared_or F t ts x c.0 b.1 d.0 l g.0 g.1 y r is
    (c.2 ∙ ap (λ (q : Tokens). Ok (c.0, q)) (second_part _ b.0 c.1 b.1 c.3))
    (d.2 ∙ ap (λ (q : Tokens). Ok (d.0, q)) (second_part _ s d.1 l d.3)) g.2 g.3

pub behind_operator : (F : Parser Factor) (x : Factor) (ts : Tokens) (y : Expr) (r : Tokens) → sees_operator ts ≡ true
    → expr_after F None x ts ≡ Ok (y, r) → stripped y ≡ (0, y)
behind_operator F x [] y r is h = cc
behind_operator F x (t ∷ ts) y r is h = let b = both_steps (simple_after F None x (t ∷ ts)) _ y r h in stripped_none y
    (simple_or F t ts x b.0 b.1 y r is b.2 b.3)
