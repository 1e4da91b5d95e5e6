-- Expressions: what derives within n levels is at most n high, and what is at most n high derives within n levels.
use Rattle.std.proofs.Common.{ℕ, zero, suc, ◌≤◌, [], Some, None, arith}
use Rattle.ps_scan.specs.declared.token.Kind.TheVariants.{Comma}
use Rattle.ps_syntax.specs.declared.expression.Expr.{Expr}
use Rattle.ps_syntax.specs.declared.expression.Factor.{Factor}
use Rattle.ps_syntax.specs.declared.expression.Member.{Member}
use Rattle.ps_syntax.specs.declared.expression.Selector.{Selector}
use Rattle.ps_syntax.specs.declared.expression.AddedTerm.{AddedTerm}
use Rattle.ps_syntax.specs.declared.expression.MultipliedFactor.{MultipliedFactor}
use Rattle.ps_syntax.specs.declared.expression.Simple.{Simple}
use Rattle.ps_syntax.specs.declared.expression.Term.{Term}
use Rattle.ps_syntax.specs.declared.expression.Variable.{Variable}
use Rattle.ps_syntax.specs.Height.{height_of_expr, height_of_factor, height_of_member, height_of_selector}
use Rattle.ps_syntax.specs.Height.{height_of_added, height_of_multiplied, height_of_simple, height_of_term}
use Rattle.ps_syntax.specs.Height.{height_of_variable}
use Rattle.ps_parse_grammar.specs.Symbols.{Tokens, Symbol, nothing, Many, Separated}
use Rattle.ps_parse_grammar.specs.Expressions.{IsMember, single, range, IsSelector, index, field, content, IsVariable}
use Rattle.ps_parse_grammar.specs.Expressions.{selected, IsFactor, variable, call, number, text, nil, empty, set}
use Rattle.ps_parse_grammar.specs.Expressions.{group, not, IsMultiplied, multiplied, IsTerm, term, IsAdded, added}
use Rattle.ps_parse_grammar.specs.Expressions.{IsSimple, plain, signed, IsExpr, alone, compare, factor_within}
use Rattle.ps_parse_grammar.specs.Expressions.{expr_within}
use Rattle.ps_parse_grammar.proofs.Heights as height
use Rattle.ps_parse_grammar.proofs.Groups.{height-grouped}
use Rattle.ps_parse_grammar.proofs.Levels.{Level, greatest_of, no_level, many_level, separated_level}

module _ (E E' : Symbol Expr) (k n : ℕ) (l : Level E height_of_expr k n E') where
  exprs_level : Level (Separated Comma E) (greatest_of height_of_expr) k n (Separated Comma E')
  exprs_level = separated_level E E' height_of_expr k n l Comma

  -- ---- members
  member_bounded : (y : Member) (ts r : Tokens) → IsMember E y ts r → height_of_member y ≤ k
  member_bounded y ts r (single {x = x} d) = omega (arith, height.height-single x, l.bounded x ts r d)
  member_bounded y ts r (range {x = x} {y = z} {m = m} d d') = omega
      (arith, height.height-range x z, l.bounded x ts _ d, l.bounded z m r d')

  member_lowers : (y : Member) (ts r : Tokens) → IsMember E y ts r → height_of_member y ≤ n → IsMember E' y ts r
  member_lowers y ts r (single {x = x} d) le = single (l.lowers x ts r d (omega (arith, height.height-single x, le)))
  member_lowers y ts r (range {x = x} {y = z} {m = m} d d') le =
      range (l.lowers x ts _ d (omega (arith, height.height-range x z, le)))
      (l.lowers z m r d' (omega (arith, height.height-range x z, le)))

  member_level : Level (IsMember E) height_of_member k n (IsMember E')
  member_level = record { bounded = member_bounded; lowers = member_lowers }

  -- ---- selectors
  selector_bounded : (y : Selector) (ts r : Tokens) → IsSelector E y ts r → height_of_selector y ≤ k
  selector_bounded y ts r (index {xs = xs} {ts = m} d) = omega
      (arith, height.height-index xs, exprs_level.bounded xs m _ d)
  selector_bounded y ts r (field {at = at}) = omega (arith, height.height-field at)
  selector_bounded y ts r (content {at = at}) = omega (arith, height.height-content at)

  selector_lowers : (y : Selector) (ts r : Tokens) → IsSelector E y ts r → height_of_selector y ≤ n
      → IsSelector E' y ts r
  selector_lowers y ts r (index {xs = xs} {ts = m} d) le = index
      (exprs_level.lowers xs m _ d (omega (arith, height.height-index xs, le)))
  selector_lowers y ts r field le = field
  selector_lowers y ts r content le = content

  selector_level : Level (IsSelector E) height_of_selector k n (IsSelector E')
  selector_level = record { bounded = selector_bounded; lowers = selector_lowers }

  -- ---- variables
  variable_bounded : (y : Variable) (ts r : Tokens) → IsVariable E y ts r → height_of_variable y ≤ k
  variable_bounded y ts r (selected {at = at} {xs = xs} {ts = m} d) =
      omega (
        arith,
        height.height-variable at xs,
        (many_level (IsSelector E) (IsSelector E') height_of_selector k n selector_level).bounded xs m r d,
      )

  variable_lowers : (y : Variable) (ts r : Tokens) → IsVariable E y ts r → height_of_variable y ≤ n
      → IsVariable E' y ts r
  variable_lowers y ts r (selected {at = at} {xs = xs} {ts = m} d) le =
      selected ((many_level (IsSelector E) (IsSelector E') height_of_selector k n selector_level).lowers xs m r d
      (omega (arith, height.height-variable at xs, le)))

  pub variable_level : Level (IsVariable E) height_of_variable k n (IsVariable E')
  variable_level = record { bounded = variable_bounded; lowers = variable_lowers }

  -- ---- factors. A factor after `not` is one higher.
  module _ (F F' : Symbol Factor) (i : Level F (λ x. suc (height_of_factor x)) k n F') where
    members_level : Level (Separated Comma (IsMember E)) (greatest_of height_of_member) k n
        (Separated Comma (IsMember E'))
    members_level = separated_level (IsMember E) (IsMember E') height_of_member k n member_level Comma

    factor_bounded : (y : Factor) (ts r : Tokens) → IsFactor E F y ts r → height_of_factor y ≤ k
    factor_bounded y ts r (variable {v = v} d) = omega
        (arith, height.height-variable_factor v, variable_bounded v ts r d)
    factor_bounded y ts r (call {at = at} {xs = xs} {ts = m} d) = omega
        (arith, height.height-call at xs, exprs_level.bounded xs m _ d)
    factor_bounded y ts r (number {at = at}) = omega (arith, height.height-number at)
    factor_bounded y ts r (text {at = at}) = omega (arith, height.height-text at)
    factor_bounded y ts r (nil {at = at}) = omega (arith, height.height-nil at)
    factor_bounded y ts r (empty {left = left}) = omega (arith, height.height-set left [])
    factor_bounded y ts r (set {left = left} {xs = xs} {ts = m} d) = omega
        (arith, height.height-set left xs, members_level.bounded xs m _ d)
    factor_bounded y ts r (group {left = left} {x = x} {ts = m} d) = omega
        (arith, height-grouped left x, l.bounded x m _ d)
    factor_bounded y ts r (not {at = at} {x = x} {ts = m} d) = omega (arith, height.height-not at x, i.bounded x m r d)

    factor_lowers : (y : Factor) (ts r : Tokens) → IsFactor E F y ts r → height_of_factor y ≤ n → IsFactor E' F' y ts r
    factor_lowers y ts r (variable {v = v} d) le = variable
        (variable_lowers v ts r d (omega (arith, height.height-variable_factor v, le)))
    factor_lowers y ts r (call {at = at} {xs = xs} {ts = m} d) le = call
        (exprs_level.lowers xs m _ d (omega (arith, height.height-call at xs, le)))
    factor_lowers y ts r number le = number
    factor_lowers y ts r text le = text
    factor_lowers y ts r nil le = nil
    factor_lowers y ts r empty le = empty
    factor_lowers y ts r (set {left = left} {xs = xs} {ts = m} d) le = set
        (members_level.lowers xs m _ d (omega (arith, height.height-set left xs, le)))
    factor_lowers y ts r (group {left = left} {x = x} {ts = m} d) le = group
        (l.lowers x m _ d (omega (arith, height-grouped left x, le)))
    factor_lowers y ts r (not {at = at} {x = x} {ts = m} d) le = not
        (i.lowers x m r d (omega (arith, height.height-not at x, le)))

    pub factor_level : Level (IsFactor E F) height_of_factor k n (IsFactor E' F')
    factor_level = record { bounded = factor_bounded; lowers = factor_lowers }

-- ---- terms
module _ (F F' : Symbol Factor) (k n : ℕ) (l : Level F height_of_factor k n F') where
  multiplied_bounded : (y : MultipliedFactor) (ts r : Tokens) → IsMultiplied F y ts r → height_of_multiplied y ≤ k
  multiplied_bounded y ts r (multiplied op at x {ts = m} d) = omega
      (arith, height.height-multiplied op at x, l.bounded x m r d)

  multiplied_lowers : (y : MultipliedFactor) (ts r : Tokens) → IsMultiplied F y ts r → height_of_multiplied y ≤ n
      → IsMultiplied F' y ts r
  multiplied_lowers y ts r (multiplied op at x {ts = m} d) le = multiplied op at x
      (l.lowers x m r d (omega (arith, height.height-multiplied op at x, le)))

  more_level : Level (Many (IsMultiplied F)) (greatest_of height_of_multiplied) k n (Many (IsMultiplied F'))
  more_level = many_level (IsMultiplied F) (IsMultiplied F') height_of_multiplied k n (record {
    bounded = multiplied_bounded;
    lowers = multiplied_lowers;
  })

  term_bounded : (y : Term) (ts r : Tokens) → IsTerm F y ts r → height_of_term y ≤ k
  term_bounded y ts r (term x xs {m = m} d ds) = omega
      (arith, height.height-term x xs, l.bounded x ts m d, more_level.bounded xs m r ds)

  term_lowers : (y : Term) (ts r : Tokens) → IsTerm F y ts r → height_of_term y ≤ n → IsTerm F' y ts r
  term_lowers y ts r (term x xs {m = m} d ds) le =
      term x xs (l.lowers x ts m d (omega (arith, height.height-term x xs, le)))
      (more_level.lowers xs m r ds (omega (arith, height.height-term x xs, le)))

  pub term_level : Level (IsTerm F) height_of_term k n (IsTerm F')
  term_level = record { bounded = term_bounded; lowers = term_lowers }

-- ---- simple expressions
module _ (T T' : Symbol Term) (k n : ℕ) (l : Level T height_of_term k n T') where
  added_bounded : (y : AddedTerm) (ts r : Tokens) → IsAdded T y ts r → height_of_added y ≤ k
  added_bounded y ts r (added op at x {ts = m} d) = omega (arith, height.height-added op at x, l.bounded x m r d)

  added_lowers : (y : AddedTerm) (ts r : Tokens) → IsAdded T y ts r → height_of_added y ≤ n → IsAdded T' y ts r
  added_lowers y ts r (added op at x {ts = m} d) le = added op at x
      (l.lowers x m r d (omega (arith, height.height-added op at x, le)))

  further_level : Level (Many (IsAdded T)) (greatest_of height_of_added) k n (Many (IsAdded T'))
  further_level = many_level (IsAdded T) (IsAdded T') height_of_added k n (record {
    bounded = added_bounded;
    lowers = added_lowers;
  })

  simple_bounded : (y : Simple) (ts r : Tokens) → IsSimple T y ts r → height_of_simple y ≤ k
  simple_bounded y ts r (plain x xs {m = m} d ds) = omega
      (arith, height.height-simple None x xs, l.bounded x ts m d, further_level.bounded xs m r ds)
  simple_bounded y ts r (signed s at x xs {ts = q} {m = m} d ds) = omega
      (arith, height.height-simple (Some (s, at)) x xs, l.bounded x q m d, further_level.bounded xs m r ds)

  simple_lowers : (y : Simple) (ts r : Tokens) → IsSimple T y ts r → height_of_simple y ≤ n → IsSimple T' y ts r
  simple_lowers y ts r (plain x xs {m = m} d ds) le =
      plain x xs (l.lowers x ts m d (omega (arith, height.height-simple None x xs, le)))
      (further_level.lowers xs m r ds (omega (arith, height.height-simple None x xs, le)))
  simple_lowers y ts r (signed s at x xs {ts = q} {m = m} d ds) le =
      signed s at x xs (l.lowers x q m d (omega (arith, height.height-simple (Some (s, at)) x xs, le)))
      (further_level.lowers xs m r ds (omega (arith, height.height-simple (Some (s, at)) x xs, le)))

  pub simple_level : Level (IsSimple T) height_of_simple k n (IsSimple T')
  simple_level = record { bounded = simple_bounded; lowers = simple_lowers }

-- ---- expressions, which are one higher than what they hold
module _ (S S' : Symbol Simple) (k n : ℕ) (l : Level S height_of_simple k n S') where
  compared_bounded : (y : Expr) (ts r : Tokens) → IsExpr S y ts r → height_of_expr y ≤ suc k
  compared_bounded y ts r (alone {x = x} d) = omega (arith, height.height-simple_expr x, l.bounded x ts r d)
  compared_bounded y ts r (compare op at x z {m = m} d d') = omega
      (arith, height.height-comparison x op at z, l.bounded x ts _ d, l.bounded z m r d')

  compared_lowers : (y : Expr) (ts r : Tokens) → IsExpr S y ts r → height_of_expr y ≤ suc n → IsExpr S' y ts r
  compared_lowers y ts r (alone {x = x} d) le = alone
      (l.lowers x ts r d (omega (arith, height.height-simple_expr x, le)))
  compared_lowers y ts r (compare op at x z {m = m} d d') le =
      compare op at x z (l.lowers x ts _ d (omega (arith, height.height-comparison x op at z, le)))
      (l.lowers z m r d' (omega (arith, height.height-comparison x op at z, le)))

  pub compared_level : Level (IsExpr S) height_of_expr (suc k) (suc n) (IsExpr S')
  compared_level = record { bounded = compared_bounded; lowers = compared_lowers }

-- an expression has a height
some_height : (S : Symbol Simple) (y : Expr) (ts r : Tokens) → IsExpr S y ts r → 1 ≤ height_of_expr y
some_height S y ts r (alone {x = x} d) = omega (arith, height.height-simple_expr x)
some_height S y ts r (compare op at x z d d') = omega (arith, height.height-comparison x op at z)

-- ---- at every level
pub factors : (k n : ℕ) → Level (factor_within k) height_of_factor k n (factor_within n)
factors zero zero = factor_level nothing nothing zero zero (no_level height_of_expr zero zero nothing) nothing nothing
    (no_level (λ x. suc (height_of_factor x)) zero zero nothing)
factors zero (suc n) = factor_level nothing (expr_within (suc n)) zero (suc n)
    (no_level height_of_expr zero (suc n) (expr_within (suc n))) nothing (factor_within n)
    (no_level (λ x. suc (height_of_factor x)) zero (suc n) (factor_within n))
factors (suc k) zero =
    let l = factors k zero in
    factor_level (expr_within (suc k)) nothing (suc k) zero (record {
      bounded = (compared_level _ _ k zero (simple_level _ _ k zero (term_level _ _ k zero l))).bounded;
      lowers = λ x ts r d le. absurd (omega (arith, some_height _ x ts r d, le));
    }) (factor_within k) nothing (record {
      bounded = λ x ts r d. omega (arith, l.bounded x ts r d);
      lowers = λ x ts r d le. absurd (omega (arith, le));
    })
factors (suc k) (suc n) =
    let l = factors k n in
    factor_level (expr_within (suc k)) (expr_within (suc n)) (suc k) (suc n)
    (compared_level _ _ k n (simple_level _ _ k n (term_level _ _ k n l)))
    (factor_within k) (factor_within n) (record {
      bounded = λ x ts r d. omega (arith, l.bounded x ts r d);
      lowers = λ x ts r d le. l.lowers x ts r d (omega (arith, le));
    })

pub exprs : (k n : ℕ) → Level (expr_within k) height_of_expr k n (expr_within n)
exprs zero n = no_level height_of_expr zero n (expr_within n)
exprs (suc k) zero = record {
  bounded = (compared_level _ _ k zero (simple_level _ _ k zero (term_level _ _ k zero (factors k zero)))).bounded;
  lowers = λ x ts r d le. absurd (omega (arith, some_height _ x ts r d, le));
}
exprs (suc k) (suc n) = compared_level _ _ k n (simple_level _ _ k n (term_level _ _ k n (factors k n)))
