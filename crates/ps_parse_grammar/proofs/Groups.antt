-- What an expression in parentheses is.
use Rattle.std.proofs.Common.{◌≡◌, ℕ, zero, suc, ◌+◌, max, List, [], ◌∷◌, map, Option, Some, None, refl, sym, ap, ◌∙◌}
use Rattle.std.proofs.Common.{subst, arith}
use Rattle.std.proofs.lemmas.Option.{same_Some}
use Rattle.ps_text.specs.declared.Span.{Span}
use Rattle.ps_scan.specs.declared.token.Kind.TheVariants as k
use Rattle.ps_syntax.specs.declared.expression.Relational.{Relational}
use Rattle.ps_syntax.specs.declared.expression.Sign.{Sign}
use Rattle.ps_syntax.specs.declared.expression.Expr.{Expr, roll-Expr, out-Expr, roll-out-Expr}
use Rattle.ps_syntax.specs.declared.expression.Expr.TheVariants as e
use Rattle.ps_syntax.specs.declared.expression.Expr.TheOpen.{Expr-F, Factor-F}
use Rattle.ps_syntax.specs.declared.expression.Expr.TheViews.{out-roll-Factor}
use Rattle.ps_syntax.specs.declared.expression.Expr as views
use Rattle.ps_syntax.specs.declared.expression.Simple.{Simple, roll-Simple, out-Simple, roll-out-Simple}
use Rattle.ps_syntax.specs.declared.expression.Simple.{out-roll-Simple}
use Rattle.ps_syntax.specs.declared.expression.AddedTerm.{AddedTerm}
use Rattle.ps_syntax.specs.declared.expression.Term.{Term, roll-Term, out-Term, roll-out-Term, out-roll-Term}
use Rattle.ps_syntax.specs.declared.expression.MultipliedFactor.{MultipliedFactor}
use Rattle.ps_syntax.specs.declared.expression.Factor.{Factor, roll-Factor, out-Factor, roll-out-Factor}
use Rattle.ps_syntax.specs.declared.expression.Factor.TheVariants as f
use Rattle.ps_syntax.specs.declared.expression.Factor as factors
use Rattle.ps_syntax.specs.First.{ExprLayer, FactorLayer, first_of_factor}
use Rattle.ps_syntax.specs.Height.{height_of_expr, height_of_factor}
use Rattle.ps_parse_grammar.specs.Groups.{Inside, inside_factor, inside_term, inside_simple, inside_layer, inside}
use Rattle.ps_parse_grammar.specs.Groups.{without, stripped, grouped}
use Rattle.ps_parse_grammar.specs.Symbols.{Tokens, Symbol, nothing, token}
use Rattle.ps_parse_grammar.specs.Expressions.{IsFactor, variable, call, number, text, nil, empty, set, group, not}
use Rattle.ps_parse_grammar.specs.Expressions.{IsTerm, term, IsSimple, plain, signed, IsExpr, alone, compare}
use Rattle.ps_parse_grammar.specs.Expressions.{factor_within, expr_within}
use Rattle.ps_parse_grammar.proofs.Heights as height

-- an expression that is a factor alone
abbrev pub only : Factor → Expr
only x = e.Simple (roll-Simple (record { sign = None; first = roll-Term (record { first = x; more = [] }); more = [] }))

-- ---- a group alone has an inside, and nothing else has one

factor_inside : (z : FactorLayer) (n : ℕ) (y : Expr) → inside_factor z ≡ Some (n, y) → (at : Span)
    × (roll-Factor z ≡ f.Group at n y)
factor_inside (Factor-F.Group at m x) n y h =
    (at, f.rolls-Group at m x ∙ ap (λ (p : ℕ × Expr). f.Group at p.0 p.1) (same_Some _ _ h))
factor_inside (Factor-F.Variable x) n y h = cc
factor_inside (Factor-F.Call at xs) n y h = cc
factor_inside (Factor-F.Number at) n y h = cc
factor_inside (Factor-F.Text at) n y h = cc
factor_inside (Factor-F.Nil at) n y h = cc
factor_inside (Factor-F.Set at xs) n y h = cc
factor_inside (Factor-F.Not at x) n y h = cc

term_inside : (x : Factor) (xs : List MultipliedFactor) (n : ℕ) (y : Expr) → inside_term x xs ≡ Some (n, y)
    → (at : Span) × (roll-Term (record {
      first = x;
      more = xs;
    }) ≡ roll-Term (record {
      first = f.Group at n y;
      more = [];
    }))
term_inside x [] n y h = let g = factor_inside (out-Factor x) n y h in (
  g.0,
  ap (λ z. roll-Term (record {
    first = z;
    more = [];
  })) (sym (roll-out-Factor x) ∙ g.1),
)
term_inside x (z ∷ zs) n y h = cc

simple_inside : (sign : Option (Sign × Span)) (x : Term) (xs : List AddedTerm) (n : ℕ) (y : Expr)
    → inside_simple sign x xs ≡ Some (n, y) → (at : Span) × (e.Simple (roll-Simple (record {
      sign = sign;
      first = x;
      more = xs;
    })) ≡ only (f.Group at n y))
simple_inside None x [] n y h = let g = term_inside (out-Term x).first (out-Term x).more n y h in (
  g.0,
  ap (λ z. e.Simple (roll-Simple (record {
    sign = None;
    first = z;
    more = [];
  }))) (sym (roll-out-Term x) ∙ g.1),
)
simple_inside None x (z ∷ zs) n y h = cc
simple_inside (Some s) x xs n y h = cc

layer_inside : (z : ExprLayer) (n : ℕ) (y : Expr) → inside_layer z ≡ Some (n, y) → (at : Span)
    × (roll-Expr z ≡ only (f.Group at n y))
layer_inside (Expr-F.Simple x) n y h =
    let g = simple_inside (out-Simple x).sign (out-Simple x).first (out-Simple x).more n y h in
    (g.0, e.rolls-Simple x ∙ ap e.Simple (sym (roll-out-Simple x)) ∙ g.1)
layer_inside (Expr-F.Compare x op at z) n y h = cc

-- what has an inside is a group alone
pub inside_is : (x : Expr) (n : ℕ) (y : Expr) → inside x ≡ Some (n, y) → (at : Span) × (x ≡ only (f.Group at n y))
unfolding inside
inside_is x n y h = let g = layer_inside (out-Expr x) n y h in (g.0, sym (roll-out-Expr x) ∙ g.1)

simple_seen : (x : Simple) → inside (e.Simple x) ≡ inside_simple (out-Simple x).sign (out-Simple x).first
    (out-Simple x).more
unfolding inside views.out-Expr denote.Hole.Carrier.out
simple_seen x = refl

parts_seen : (sign : Option (Sign × Span)) (x : Term) (xs : List AddedTerm) → inside (e.Simple (roll-Simple (record {
  sign = sign;
  first = x;
  more = xs;
}))) ≡ inside_simple sign x xs
parts_seen sign x xs = simple_seen (roll-Simple (record {
  sign = sign;
  first = x;
  more = xs;
})) ∙ ap (λ z. inside_simple z.sign z.first z.more) (out-roll-Simple (record {
  sign = sign;
  first = x;
  more = xs;
}))

factors_seen : (x : Factor) (xs : List MultipliedFactor) → inside (e.Simple (roll-Simple (record {
  sign = None;
  first = roll-Term (record {
    first = x;
    more = xs;
  });
  more = [];
}))) ≡ inside_term x xs
factors_seen x xs = parts_seen None (roll-Term (record {
  first = x;
  more = xs;
})) [] ∙ ap (λ z. inside_term z.first z.more) (out-roll-Term (record {
  first = x;
  more = xs;
}))

only_seen : (x : Factor) → inside (only x) ≡ inside_factor (out-Factor x)
only_seen x = factors_seen x []

pub inside_group : (at : Span) (n : ℕ) (x : Expr) → inside (only (f.Group at n x)) ≡ Some (n, x)
inside_group at n x = only_seen (f.Group at n x) ∙ ap (λ y. inside_factor (out-Factor y)) (sym (f.rolls-Group at n x))
    ∙ ap inside_factor (out-roll-Factor (Factor-F.Group at n x))

pub inside_compare : (x : Simple) (op : Relational) (at : Span) (y : Simple) → inside (e.Compare x op at y) ≡ None
unfolding inside views.out-Expr denote.Hole.Carrier.out
inside_compare x op at y = refl

inside_signed : (s : Sign × Span) (x : Term) (xs : List AddedTerm) → inside (e.Simple (roll-Simple (record {
  sign = Some s;
  first = x;
  more = xs;
}))) ≡ None
inside_signed s x xs = parts_seen (Some s) x xs

pub inside_added : (x : Term) (z : AddedTerm) (zs : List AddedTerm) → inside (e.Simple (roll-Simple (record {
  sign = None;
  first = x;
  more = z ∷ zs;
}))) ≡ None
inside_added x z zs = parts_seen None x (z ∷ zs)

pub inside_multiplied : (x : Factor) (z : MultipliedFactor) (zs : List MultipliedFactor) → inside
    (e.Simple (roll-Simple (record {
      sign = None;
      first = roll-Term (record {
        first = x;
        more = z ∷ zs;
      });
      more = [];
    }))) ≡ None
inside_multiplied x z zs = factors_seen x (z ∷ zs)

none_some : {A B : Type 0} {o : Option A} {x : A} → o ≡ None → o ≡ Some x → B
none_some e h = cc

module _ (E : Symbol Expr) (F : Symbol Factor) where
  factor_begins : (x : Factor) (ts r : Tokens) → IsFactor E F x ts r → (p : ℕ × Expr) → inside (only x) ≡ Some p
      → (at : Span) × (m : Tokens) × (ts ≡ token k.LeftParen at ∷ m)
  unfolding factors.out-Factor denote.Hole.Carrier.out
  factor_begins x ts r (variable {v = v} d) p h = none_some (only_seen (f.Variable v)) h
  factor_begins x ts r (call {at = at} {xs = xs} d) p h = none_some (only_seen (f.Call at xs)) h
  factor_begins x ts r (number {at = at}) p h = none_some (only_seen (f.Number at)) h
  factor_begins x ts r (text {at = at}) p h = none_some (only_seen (f.Text at)) h
  factor_begins x ts r (nil {at = at}) p h = none_some (only_seen (f.Nil at)) h
  factor_begins x ts r (empty {left = left}) p h = none_some (only_seen (f.Set left [])) h
  factor_begins x ts r (set {left = left} {xs = xs} d) p h = none_some (only_seen (f.Set left xs)) h
  factor_begins x ts r (group {left = left} {ts = m} d) p h = (left, m, refl)
  factor_begins x ts r (not {at = at} {x = y} d) p h = none_some (only_seen (f.Not at y)) h

  -- what is in parentheses as a whole begins with one
  expr_begins : (y : Expr) (ts r : Tokens) → IsExpr (IsSimple (IsTerm (IsFactor E F))) y ts r → (p : ℕ × Expr)
      → inside y ≡ Some p → (at : Span) × (m : Tokens) × (ts ≡ token k.LeftParen at ∷ m)
  expr_begins y ts r (compare op at x z d d') p h = none_some (inside_compare x op at z) h
  expr_begins y ts r (alone (signed s at x xs d ds)) p h = none_some (inside_signed (s, at) x xs) h
  expr_begins y ts r (alone (plain x (z ∷ zs) d ds)) p h = none_some (inside_added x z zs) h
  expr_begins y ts r (alone (plain t [] (term x (z ∷ zs) d ds') ds)) p h = none_some (inside_multiplied x z zs) h
  expr_begins y ts r (alone (plain t [] (term x [] {m = m} d ds') ds)) p h = factor_begins x ts m d p h

pub within_begins : (n : ℕ) (y : Expr) (ts r : Tokens) → expr_within n y ts r → (p : ℕ × Expr) → inside y ≡ Some p
    → (at : Span) × (m : Tokens) × (ts ≡ token k.LeftParen at ∷ m)
within_begins zero y ts r d p h = absurd d
within_begins (suc zero) y ts r d p h = expr_begins nothing nothing y ts r d p h
within_begins (suc (suc n)) y ts r d p h = expr_begins (expr_within (suc n)) (factor_within n) y ts r d p h

-- ---- what parentheses make of an expression

pub stripped_group : (at : Span) (n : ℕ) (x : Expr) → stripped (only (f.Group at n x)) ≡ (suc n, x)
unfolding stripped
stripped_group at n x = rw (inside_group at n x) refl

pub stripped_none : (x : Expr) → inside x ≡ None → stripped x ≡ (0, x)
unfolding stripped
stripped_none x h = rw h refl

pub grouped_stripped : (at : Span) (x : Expr) → grouped at x ≡ f.Group at (stripped x).0 (stripped x).1
unfolding grouped
grouped_stripped at x = refl

pub grouped_first : (at : Span) (x : Expr) → first_of_factor (grouped at x) ≡ at.from
unfolding grouped factors.out-Factor denote.Hole.Carrier.out
grouped_first at x = refl

inside_height : (x : Expr) (p : Inside) → inside x ≡ p → (without x p).0 + height_of_expr (without x p).1
    ≡ height_of_expr x
inside_height x None h = omega arith
inside_height x (Some p) h =
    let is = inside_is x p.0 p.1 h in
    let above = ap height_of_expr is.1 ∙ height.height-simple_expr _ in
    let first = height.height-simple None (roll-Term (record { first = f.Group is.0 p.0 p.1; more = [] })) [] in
    omega (arith, above, first, height.height-term (f.Group is.0 p.0 p.1) [], height.height-group is.0 p.0 p.1)

-- each parenthesis counts
pub height-grouped : (at : Span) (x : Expr) → height_of_factor (grouped at x) ≡ height_of_expr x
unfolding grouped stripped
height-grouped at x = height.height-group at (without x (inside x)).0 (without x (inside x)).1 ∙ inside_height x
    (inside x) refl
