-- Terms, simple expressions and expressions are read exactly.
use Rattle.std.proofs.Common.{◌≡◌, ℕ, zero, suc, ◌<◌, ◌≤◌, false, List, [], ◌∷◌, length, Option, Some, None, Ok, inl}
use Rattle.std.proofs.Common.{inr, refl, sym, ap, ◌∙◌, subst, arith}
use Rattle.std.proofs.lemmas.Option.{same_Some}
use Rattle.ps_text.specs.declared.Span.{Span}
use Rattle.ps_scan.specs.declared.token.Kind.{Kind}
use Rattle.ps_scan.specs.declared.token.Kind.TheVariants as k
use Rattle.ps_scan.specs.Kinds.{same}
use Rattle.ps_syntax.specs.declared.expression.Relational.{Relational}
use Rattle.ps_syntax.specs.declared.expression.Relational.TheVariants as relation
use Rattle.ps_syntax.specs.declared.expression.Sign.{Sign}
use Rattle.ps_syntax.specs.declared.expression.Sign.TheVariants as sign
use Rattle.ps_syntax.specs.declared.expression.Adding.{Adding}
use Rattle.ps_syntax.specs.declared.expression.Adding.TheVariants as adding
use Rattle.ps_syntax.specs.declared.expression.Multiplying.{Multiplying}
use Rattle.ps_syntax.specs.declared.expression.Multiplying.TheVariants as multiplying
use Rattle.ps_syntax.specs.declared.expression.Simple.{Simple}
use Rattle.ps_syntax.specs.declared.expression.AddedTerm.{AddedTerm}
use Rattle.ps_syntax.specs.declared.expression.Term.{Term}
use Rattle.ps_syntax.specs.declared.expression.MultipliedFactor.{MultipliedFactor}
use Rattle.ps_syntax.specs.declared.expression.Expr.{Expr}
use Rattle.ps_syntax.specs.declared.expression.Factor.{Factor}
use Rattle.ps_parse_grammar.specs.Symbols.{Tokens, Symbol, nothing, token, Many, none, more}
use Rattle.ps_parse_grammar.specs.Expressions.{IsMultiplied, multiplied, IsTerm, term, IsAdded, added, IsSimple, plain}
use Rattle.ps_parse_grammar.specs.Expressions.{signed, IsExpr, alone, compare, multiplying_kind, adding_kind}
use Rattle.ps_parse_grammar.specs.Expressions.{relation_kind, sign_kind, factor_within, expr_within}
use Rattle.ps_parse.specs.Steps.{Parser, sees, many, refuse}
use Rattle.ps_parse.specs.ReadExpressions as read
use Rattle.ps_parse.proofs.Exact.{Exact, Perhaps, both_steps, in_steps, at_last, operator_found, operator_missed}
use Rattle.ps_parse.proofs.Exact.{operator_ended, refused, operator_sound}
use Rattle.ps_parse.proofs.Lists.{many_exact}
use Rattle.ps_parse.proofs.Ends.{Ends, binds, ends_weaker}
use Rattle.ps_parse.proofs.ExactFactors.{factor_begins, factor_exact, factor_unsigned}

-- ---- operators
pub multiplying_back : (kind : Kind) (op : Multiplying) → read.multiplying_of kind ≡ Some op → kind
    ≡ multiplying_kind op
multiplying_back k.Star op e = ap multiplying_kind (same_Some _ _ e)
multiplying_back k.Div op e = ap multiplying_kind (same_Some _ _ e)
multiplying_back k.Mod op e = ap multiplying_kind (same_Some _ _ e)
multiplying_back k.And op e = ap multiplying_kind (same_Some _ _ e)
multiplying_back kind op e = cc

pub multiplying_forth : (op : Multiplying) → read.multiplying_of (multiplying_kind op) ≡ Some op
multiplying_forth multiplying.Times = refl
multiplying_forth multiplying.Div = refl
multiplying_forth multiplying.Mod = refl
multiplying_forth multiplying.And = refl

multiplying_binds : (op : Multiplying) → binds (multiplying_kind op) ≡ 3
multiplying_binds multiplying.Times = refl
multiplying_binds multiplying.Div = refl
multiplying_binds multiplying.Mod = refl
multiplying_binds multiplying.And = refl

no_multiplying : (kind : Kind) → binds kind < 3 → read.multiplying_of kind ≡ None
no_multiplying k.Star h = absurd (omega arith)
no_multiplying k.Div h = absurd (omega arith)
no_multiplying k.Mod h = absurd (omega arith)
no_multiplying k.And h = absurd (omega arith)
no_multiplying kind h = refl

pub adding_back : (kind : Kind) (op : Adding) → read.adding_of kind ≡ Some op → kind ≡ adding_kind op
adding_back k.Plus op e = ap adding_kind (same_Some _ _ e)
adding_back k.Minus op e = ap adding_kind (same_Some _ _ e)
adding_back k.Or op e = ap adding_kind (same_Some _ _ e)
adding_back kind op e = cc

pub adding_forth : (op : Adding) → read.adding_of (adding_kind op) ≡ Some op
adding_forth adding.Plus = refl
adding_forth adding.Minus = refl
adding_forth adding.Or = refl

adding_binds : (op : Adding) → binds (adding_kind op) ≡ 2
adding_binds adding.Plus = refl
adding_binds adding.Minus = refl
adding_binds adding.Or = refl

no_adding : (kind : Kind) → binds kind < 2 → read.adding_of kind ≡ None
no_adding k.Plus h = absurd (omega arith)
no_adding k.Minus h = absurd (omega arith)
no_adding k.Or h = absurd (omega arith)
no_adding kind h = refl

pub relation_back : (kind : Kind) (op : Relational) → read.relation_of kind ≡ Some op → kind ≡ relation_kind op
relation_back k.Equal op e = ap relation_kind (same_Some _ _ e)
relation_back k.NotEqual op e = ap relation_kind (same_Some _ _ e)
relation_back k.Less op e = ap relation_kind (same_Some _ _ e)
relation_back k.Greater op e = ap relation_kind (same_Some _ _ e)
relation_back k.LessEqual op e = ap relation_kind (same_Some _ _ e)
relation_back k.GreaterEqual op e = ap relation_kind (same_Some _ _ e)
relation_back k.In op e = ap relation_kind (same_Some _ _ e)
relation_back kind op e = cc

pub relation_forth : (op : Relational) → read.relation_of (relation_kind op) ≡ Some op
relation_forth relation.Equal = refl
relation_forth relation.NotEqual = refl
relation_forth relation.Less = refl
relation_forth relation.Greater = refl
relation_forth relation.LessEqual = refl
relation_forth relation.GreaterEqual = refl
relation_forth relation.In = refl

relation_binds : (op : Relational) → binds (relation_kind op) ≡ 1
relation_binds relation.Equal = refl
relation_binds relation.NotEqual = refl
relation_binds relation.Less = refl
relation_binds relation.Greater = refl
relation_binds relation.LessEqual = refl
relation_binds relation.GreaterEqual = refl
relation_binds relation.In = refl

no_relation : (kind : Kind) → binds kind < 1 → read.relation_of kind ≡ None
no_relation k.Equal h = absurd (omega arith)
no_relation k.NotEqual h = absurd (omega arith)
no_relation k.Less h = absurd (omega arith)
no_relation k.Greater h = absurd (omega arith)
no_relation k.LessEqual h = absurd (omega arith)
no_relation k.GreaterEqual h = absurd (omega arith)
no_relation k.In h = absurd (omega arith)
no_relation kind h = refl

pub sign_back : (kind : Kind) (op : Sign) → read.sign_of kind ≡ Some op → kind ≡ sign_kind op
sign_back k.Plus op e = ap sign_kind (same_Some _ _ e)
sign_back k.Minus op e = ap sign_kind (same_Some _ _ e)
sign_back kind op e = cc

pub sign_forth : (op : Sign) → read.sign_of (sign_kind op) ≡ Some op
sign_forth sign.Plus = refl
sign_forth sign.Minus = refl

-- ---- terms
module _ (F : Symbol Factor) (q : Parser Factor) (i : Exact (Ends 4) F q) where
  multiplied_sound : (ts : Tokens) (o : Option MultipliedFactor) (r : Tokens) → read.multiplied q ts ≡ Ok (o, r)
      → Perhaps (IsMultiplied F) o ts r
  unfolding read.multiplied
  multiplied_sound ts o r e =
      elim (operator_sound read.multiplying_of multiplying_kind multiplying_back multiplying_forth ts _ o r e) [
        | inl w ↦ (let b = both_steps (q w.2) _ o r w.4 in
            subst (λ z. Perhaps (IsMultiplied F) o z r) (sym w.3)
            (at_last (Perhaps (IsMultiplied F)) _ (Some _) o b.1 r b.3
            (multiplied w.0 w.1 b.0 (i.sound w.2 b.0 b.1 b.2))))
        | inr w ↦ at_last (Perhaps (IsMultiplied F)) _ None o ts r w refl
      ]

  multiplied_complete : (x : MultipliedFactor) (ts r : Tokens) → IsMultiplied F x ts r → Ends 4 r → read.multiplied q ts
      ≡ Ok (Some x, r)
  unfolding read.multiplied
  multiplied_complete x ts r (multiplied op at z {ts = m} d) o = operator_found read.multiplying_of multiplying_kind
      multiplying_back multiplying_forth op at m _ ∙ rw (i.complete z m r d o) refl

  multiplied_absent : (ts : Tokens) → Ends 3 ts → read.multiplied q ts ≡ Ok (None, ts)
  unfolding read.multiplied read.eat_operator
  multiplied_absent [] o = refl
  multiplied_absent (t ∷ ts) o = rw (no_multiplying t.kind o) refl

  multiplied_starts : (x : MultipliedFactor) (ts r : Tokens) → IsMultiplied F x ts r → Ends 4 ts
  multiplied_starts x ts r (multiplied op at z d) = omega (arith, multiplying_binds op)

  multiplied_shrinks : (x : MultipliedFactor) (ts r : Tokens) → IsMultiplied F x ts r → length r < length ts
  multiplied_shrinks x ts r (multiplied op at z {ts = m} d) = omega (arith, i.shrinks z m r d)

  factors_exact : Exact (Ends 3) (Many (IsMultiplied F)) (many (read.multiplied q))
  factors_exact = many_exact (Ends 4) (Ends 3) (IsMultiplied F) (read.multiplied q) (record {
    sound = multiplied_sound;
    complete = multiplied_complete;
    absent = multiplied_absent;
    starts = multiplied_starts;
    weaker = λ ts o. ends_weaker 3 4 ts (omega arith) o;
    shrinks = multiplied_shrinks;
  })

  term_sound : (ts : Tokens) (y : Term) (r : Tokens) → read.term q ts ≡ Ok (y, r) → IsTerm F y ts r
  unfolding read.term
  term_sound ts y r e =
      in_steps (q ts) _ y r e (λ b0 b1 b2 b3.
      in_steps (many (read.multiplied q) b1) _ y r b3 (λ c0 c1 c2 c3.
      at_last (IsTerm F) _ _ y c1 r c3 (term b0 c0 (i.sound ts b0 b1 b2) (factors_exact.sound b1 c0 c1 c2))))

  factors_begin : (xs : List MultipliedFactor) (ts r : Tokens) → Many (IsMultiplied F) xs ts r → Ends 3 r → Ends 4 ts
  factors_begin xs ts r none o = ends_weaker 3 4 r (omega arith) o
  factors_begin xs ts r (more {x = x} {m = m} d ds) o = multiplied_starts x ts m d

  term_complete : (y : Term) (ts r : Tokens) → IsTerm F y ts r → Ends 3 r → read.term q ts ≡ Ok (y, r)
  unfolding read.term
  term_complete y ts r (term x xs {m = m} d ds) o = rw
      (i.complete x ts m d (factors_begin xs m r ds o), factors_exact.complete xs m r ds o) refl

  term_shrinks : (y : Term) (ts r : Tokens) → IsTerm F y ts r → length r ≤ length ts
  term_shrinks y ts r (term x xs {m = m} d ds) = omega (arith, i.shrinks x ts m d, factors_exact.shrinks xs m r ds)

  pub term_exact : Exact (Ends 3) (IsTerm F) (read.term q)
  term_exact = record { sound = term_sound; complete = term_complete; shrinks = term_shrinks }

-- ---- simple expressions
module _ (T : Symbol Term) (q : Parser Term) (i : Exact (Ends 3) T q) where
  added_sound : (ts : Tokens) (o : Option AddedTerm) (r : Tokens) → read.added q ts ≡ Ok (o, r) → Perhaps
      (IsAdded T) o ts r
  unfolding read.added
  added_sound ts o r e =
      elim (operator_sound read.adding_of adding_kind adding_back adding_forth ts _ o r e) [
        | inl w ↦ (let b = both_steps (q w.2) _ o r w.4 in
            subst (λ z. Perhaps (IsAdded T) o z r) (sym w.3)
            (at_last (Perhaps (IsAdded T)) _ (Some _) o b.1 r b.3 (added w.0 w.1 b.0 (i.sound w.2 b.0 b.1 b.2))))
        | inr w ↦ at_last (Perhaps (IsAdded T)) _ None o ts r w refl
      ]

  added_complete : (x : AddedTerm) (ts r : Tokens) → IsAdded T x ts r → Ends 3 r → read.added q ts ≡ Ok (Some x, r)
  unfolding read.added
  added_complete x ts r (added op at z {ts = m} d) o = operator_found read.adding_of adding_kind adding_back
      adding_forth op at m _ ∙ rw (i.complete z m r d o) refl

  added_absent : (ts : Tokens) → Ends 2 ts → read.added q ts ≡ Ok (None, ts)
  unfolding read.added read.eat_operator
  added_absent [] o = refl
  added_absent (t ∷ ts) o = rw (no_adding t.kind o) refl

  added_starts : (x : AddedTerm) (ts r : Tokens) → IsAdded T x ts r → Ends 3 ts
  added_starts x ts r (added op at z d) = omega (arith, adding_binds op)

  added_shrinks : (x : AddedTerm) (ts r : Tokens) → IsAdded T x ts r → length r < length ts
  added_shrinks x ts r (added op at z {ts = m} d) = omega (arith, i.shrinks z m r d)

  terms_exact : Exact (Ends 2) (Many (IsAdded T)) (many (read.added q))
  terms_exact = many_exact (Ends 3) (Ends 2) (IsAdded T) (read.added q) (record {
    sound = added_sound;
    complete = added_complete;
    absent = added_absent;
    starts = added_starts;
    weaker = λ ts o. ends_weaker 2 3 ts (omega arith) o;
    shrinks = added_shrinks;
  })

  terms_begin : (xs : List AddedTerm) (ts r : Tokens) → Many (IsAdded T) xs ts r → Ends 2 r → Ends 3 ts
  terms_begin xs ts r none o = ends_weaker 2 3 r (omega arith) o
  terms_begin xs ts r (more {x = x} {m = m} d ds) o = added_starts x ts m d

  simple_sound : (ts : Tokens) (y : Simple) (r : Tokens) → read.simple q ts ≡ Ok (y, r) → IsSimple T y ts r
  unfolding read.simple
  simple_sound ts y r e =
      elim (operator_sound read.sign_of sign_kind sign_back sign_forth ts _ y r e) [
        | inl w ↦ (let b = both_steps (q w.2) _ y r w.4 in
            let c = both_steps (many (read.added q) b.1) _ y r b.3 in
            subst (λ z. IsSimple T y z r) (sym w.3)
            (at_last (IsSimple T) _ _ y c.1 r c.3
            (signed w.0 w.1 b.0 c.0 (i.sound w.2 b.0 b.1 b.2) (terms_exact.sound b.1 c.0 c.1 c.2))))
        | inr w ↦ (let b = both_steps (q ts) _ y r w in
            let c = both_steps (many (read.added q) b.1) _ y r b.3 in
            at_last (IsSimple T) _ _ y c.1 r c.3 (plain b.0 c.0 (i.sound ts b.0 b.1 b.2)
            (terms_exact.sound b.1 c.0 c.1 c.2)))
      ]

  simple_complete : (unsigned : (x : Term) (ts r : Tokens) → T x ts r → read.eat_operator read.sign_of ts ≡ Ok
      (None, ts)) (y : Simple) (ts r : Tokens) → IsSimple T y ts r → Ends 2 r → read.simple q ts ≡ Ok (y, r)
  unfolding read.simple
  simple_complete unsigned y ts r (plain x xs {m = m} d ds) o = rw
      (unsigned x ts m d, i.complete x ts m d (terms_begin xs m r ds o), terms_exact.complete xs m r ds o) refl
  simple_complete unsigned y ts r (signed s at x xs {ts = l} {m = m} d ds) o =
      operator_found read.sign_of sign_kind sign_back sign_forth s at l _ ∙ rw
      (i.complete x l m d (terms_begin xs m r ds o), terms_exact.complete xs m r ds o) refl

  simple_shrinks : (y : Simple) (ts r : Tokens) → IsSimple T y ts r → length r ≤ length ts
  simple_shrinks y ts r (plain x xs {m = m} d ds) = omega (arith, i.shrinks x ts m d, terms_exact.shrinks xs m r ds)
  simple_shrinks y ts r (signed s at x xs {ts = l} {m = m} d ds) = omega
      (arith, i.shrinks x l m d, terms_exact.shrinks xs m r ds)

  pub simple_exact : ((x : Term) (ts r : Tokens) → T x ts r → read.eat_operator read.sign_of ts ≡ Ok (None, ts)) → Exact
      (Ends 2) (IsSimple T) (read.simple q)
  simple_exact unsigned = record { sound = simple_sound; complete = simple_complete unsigned; shrinks = simple_shrinks }

-- ---- expressions
module _ (S : Symbol Simple) (q : Parser Simple) (i : Exact (Ends 2) S q) where
  compared_sound : (ts : Tokens) (y : Expr) (r : Tokens) → read.compared q ts ≡ Ok (y, r) → IsExpr S y ts r
  unfolding read.compared
  compared_sound ts y r e =
      let b = both_steps (q ts) _ y r e in
      elim (operator_sound read.relation_of relation_kind relation_back relation_forth b.1 _ y r b.3) [
        | inl w ↦ (let c = both_steps (q w.2) _ y r w.4 in
            at_last (IsExpr S) _ _ y c.1 r c.3 (compare w.0 w.1 b.0 c.0
            (subst (λ z. S b.0 ts z) w.3 (i.sound ts b.0 b.1 b.2)) (i.sound w.2 c.0 c.1 c.2)))
        | inr w ↦ at_last (IsExpr S) _ _ y b.1 r w (alone (i.sound ts b.0 b.1 b.2))
      ]

  compared_complete : (y : Expr) (ts r : Tokens) → IsExpr S y ts r → Ends 1 r → read.compared q ts ≡ Ok (y, r)
  unfolding read.compared
  compared_complete y ts [] (alone {x = x} d) o = rw (i.complete x ts [] d tt)
      (operator_ended read.relation_of relation_kind relation_back relation_forth _)
  compared_complete y ts (t ∷ r) (alone {x = x} d) o =
      rw (i.complete x ts (t ∷ r) d (ends_weaker 1 2 (t ∷ r) (omega arith) o))
      (operator_missed read.relation_of relation_kind relation_back relation_forth t r _ (no_relation t.kind o))
  compared_complete y ts r (compare op at x z {m = m} d d') o =
      rw (i.complete x ts (token (relation_kind op) at ∷ m) d (omega (arith, relation_binds op)))
      (operator_found read.relation_of relation_kind relation_back relation_forth op at m _ ∙ rw
      (i.complete z m r d' (ends_weaker 1 2 r (omega arith) o)) refl)

  compared_shrinks : (y : Expr) (ts r : Tokens) → IsExpr S y ts r → length r ≤ length ts
  compared_shrinks y ts r (alone {x = x} d) = i.shrinks x ts r d
  compared_shrinks y ts r (compare op at x z {m = m} d d') = omega
      (arith, i.shrinks x ts (token (relation_kind op) at ∷ m) d, i.shrinks z m r d')

  pub compared_exact : Exact (Ends 1) (IsExpr S) (read.compared q)
  compared_exact = record { sound = compared_sound; complete = compared_complete; shrinks = compared_shrinks }

-- ---- heights
-- what is known of the factors in which nothing is higher than a number
pub record Level (F : Symbol Factor) (q : Parser Factor) : Type 0 where
  pub exact : Exact (Ends 4) F q
  pub begins : (x : Factor) (ts r : Tokens) → F x ts r → sees k.RightBracket ts ≡ false
  pub unsigned : (x : Factor) (ts r : Tokens) → F x ts r → read.eat_operator read.sign_of ts ≡ Ok (None, ts)

module _ (F : Symbol Factor) (q : Parser Factor) (l : Level F q) where
  term_unsigned : (x : Term) (ts r : Tokens) → IsTerm F x ts r → read.eat_operator read.sign_of ts ≡ Ok (None, ts)
  term_unsigned x ts r (term z xs {m = m} d ds) = l.unsigned z ts m d

  sign_seen : (s : Sign) (at : Span) (ts : Tokens) → sees k.RightBracket (token (sign_kind s) at ∷ ts) ≡ false
  unfolding same
  sign_seen sign.Plus at ts = refl
  sign_seen sign.Minus at ts = refl

  term_begins : (x : Term) (ts r : Tokens) → IsTerm F x ts r → sees k.RightBracket ts ≡ false
  term_begins x ts r (term z xs {m = m} d ds) = l.begins z ts m d

  simple_begins : (x : Simple) (ts r : Tokens) → IsSimple (IsTerm F) x ts r → sees k.RightBracket ts ≡ false
  simple_begins x ts r (plain z xs {m = m} d ds) = term_begins z ts m d
  simple_begins x ts r (signed s at z xs {ts = l} d ds) = sign_seen s at l

  pub expr_begins : (x : Expr) (ts r : Tokens) → IsExpr (IsSimple (IsTerm F)) x ts r → sees k.RightBracket ts ≡ false
  expr_begins x ts r (alone {x = z} d) = simple_begins z ts r d
  expr_begins x ts r (compare op at z y {m = m} d d') = simple_begins z ts (token (relation_kind op) at ∷ m) d

  pub next_expr : Exact (Ends 1) (IsExpr (IsSimple (IsTerm F))) (read.compared (read.simple (read.term q)))
  next_expr = compared_exact _ _ (simple_exact _ _ (term_exact F q l.exact) term_unsigned)

pub level : (n : ℕ) → Level (factor_within n) (read.read_factor n)
unfolding read.read_expr read.read_negated
level zero = record {
  exact = factor_exact nothing refuse (refused _) nothing refuse (refused _) (λ x ts r d. absurd d);
  begins = factor_begins nothing refuse (refused _) nothing refuse (refused _) (λ x ts r d. absurd d);
  unsigned = factor_unsigned nothing refuse (refused _) nothing refuse (refused _) (λ x ts r d. absurd d);
}
level (suc n) = let l = level n in let e = next_expr _ _ l in record {
  exact = factor_exact _ _ e _ _ l.exact (expr_begins _ _ l);
  begins = factor_begins _ _ e _ _ l.exact (expr_begins _ _ l);
  unsigned = factor_unsigned _ _ e _ _ l.exact (expr_begins _ _ l);
}

pub expr_exact_within : (n : ℕ) → Exact (Ends 1) (expr_within n) (read.read_expr n)
unfolding read.read_expr read.read_negated
expr_exact_within zero = refused (Ends 1)
expr_exact_within (suc n) = next_expr _ _ (level n)
