-- The grammar of variables (ISO 7185 6.5) and expressions (6.7): one constructor for each alternative. A list of tokens
-- may be split anywhere; there is no lookahead.
use Rattle.std.specs.Prelude.{ℕ, zero, suc, List, [], ◌∷◌, Some, None}
use Rattle.ps_text.specs.declared.Span.{Span}
use Rattle.ps_scan.specs.declared.token.Kind.{Kind}
use Rattle.ps_scan.specs.declared.token.Kind.TheVariants as k
use Rattle.ps_syntax.specs.declared.expression.Relational.{Relational}
use Rattle.ps_syntax.specs.declared.expression.Relational.TheVariants as relation
use Rattle.ps_syntax.specs.declared.expression.Sign.{Sign}
use Rattle.ps_syntax.specs.declared.expression.Sign.TheVariants as sign
use Rattle.ps_syntax.specs.declared.expression.Adding.{Adding}
use Rattle.ps_syntax.specs.declared.expression.Adding.TheVariants as adding
use Rattle.ps_syntax.specs.declared.expression.Multiplying.{Multiplying}
use Rattle.ps_syntax.specs.declared.expression.Multiplying.TheVariants as multiplying
use Rattle.ps_syntax.specs.declared.expression.Expr.{Expr}
use Rattle.ps_syntax.specs.declared.expression.Expr.TheVariants as e
use Rattle.ps_syntax.specs.declared.expression.Simple.{Simple, roll-Simple}
use Rattle.ps_syntax.specs.declared.expression.AddedTerm.{AddedTerm, roll-AddedTerm}
use Rattle.ps_syntax.specs.declared.expression.Term.{Term, roll-Term}
use Rattle.ps_syntax.specs.declared.expression.MultipliedFactor.{MultipliedFactor}
use Rattle.ps_syntax.specs.declared.expression.Factor.{Factor}
use Rattle.ps_syntax.specs.declared.expression.Factor.TheVariants as f
use Rattle.ps_syntax.specs.declared.expression.Variable.{Variable}
use Rattle.ps_syntax.specs.declared.expression.Selector.{Selector}
use Rattle.ps_syntax.specs.declared.expression.Selector.TheVariants as selector
use Rattle.ps_syntax.specs.declared.expression.Member.{Member}
use Rattle.ps_syntax.specs.declared.expression.Member.TheVariants as member
use Rattle.ps_parse_grammar.specs.Groups.{grouped}
use Rattle.ps_parse_grammar.specs.Symbols.{Tokens, Symbol, nothing, token, Many, Separated}

-- how an operator is written
abbrev pub relation_kind : Relational → Kind
relation_kind relation.Equal = k.Equal
relation_kind relation.NotEqual = k.NotEqual
relation_kind relation.Less = k.Less
relation_kind relation.Greater = k.Greater
relation_kind relation.LessEqual = k.LessEqual
relation_kind relation.GreaterEqual = k.GreaterEqual
relation_kind relation.In = k.In

abbrev pub sign_kind : Sign → Kind
sign_kind sign.Plus = k.Plus
sign_kind sign.Minus = k.Minus

abbrev pub adding_kind : Adding → Kind
adding_kind adding.Plus = k.Plus
adding_kind adding.Minus = k.Minus
adding_kind adding.Or = k.Or

abbrev pub multiplying_kind : Multiplying → Kind
multiplying_kind multiplying.Times = k.Star
multiplying_kind multiplying.Div = k.Div
multiplying_kind multiplying.Mod = k.Mod
multiplying_kind multiplying.And = k.And

-- member = expr [".." expr]
pub data IsMember (expr : Symbol Expr) : Member → Tokens → Tokens → Type 0 where
  single : {x : Expr} {ts r : Tokens} → expr x ts r → IsMember expr (member.One x) ts r
  range : {x y : Expr} {ts m r : Tokens} {at : Span} → expr x ts (token k.DotDot at ∷ m) → expr y m r → IsMember expr
      (member.Range x y) ts r

-- "[" expr {"," expr} "]" | "." name | "^"
pub data IsSelector (expr : Symbol Expr) : Selector → Tokens → Tokens → Type 0 where
  index : {left right : Span} {xs : List Expr} {ts r : Tokens} → Separated k.Comma expr xs ts
      (token k.RightBracket right ∷ r) → IsSelector expr (selector.Index xs) (token k.LeftBracket left ∷ ts) r
  field : {dot at : Span} {r : Tokens} → IsSelector expr (selector.Field at) (token k.Dot dot ∷ token k.Name at ∷ r) r
  content : {at : Span} {r : Tokens} → IsSelector expr (selector.Content at) (token k.Caret at ∷ r) r

-- variable = name {selector}
pub data IsVariable (expr : Symbol Expr) : Variable → Tokens → Tokens → Type 0 where
  selected : {at : Span} {xs : List Selector} {ts r : Tokens} → Many (IsSelector expr) xs ts r → IsVariable expr
      (record { name = at; selectors = xs }) (token k.Name at ∷ ts) r

-- factor, where factor' is the factor after "not"
pub data IsFactor (expr : Symbol Expr) (factor' : Symbol Factor) : Factor → Tokens → Tokens → Type 0 where
  variable : {v : Variable} {ts r : Tokens} → IsVariable expr v ts r → IsFactor expr factor' (f.Variable v) ts r
  call : {at left right : Span} {xs : List Expr} {ts r : Tokens} → Separated k.Comma expr xs ts
      (token k.RightParen right ∷ r) → IsFactor expr factor' (f.Call at xs)
      (token k.Name at ∷ token k.LeftParen left ∷ ts) r
  number : {at : Span} {r : Tokens} → IsFactor expr factor' (f.Number at) (token k.Number at ∷ r) r
  text : {at : Span} {r : Tokens} → IsFactor expr factor' (f.Text at) (token k.Text at ∷ r) r
  nil : {at : Span} {r : Tokens} → IsFactor expr factor' (f.Nil at) (token k.Nil at ∷ r) r
  empty : {left right : Span} {r : Tokens} → IsFactor expr factor' (f.Set left [])
      (token k.LeftBracket left ∷ token k.RightBracket right ∷ r) r
  set : {left right : Span} {xs : List Member} {ts r : Tokens} → Separated k.Comma (IsMember expr) xs ts
      (token k.RightBracket right ∷ r) → IsFactor expr factor' (f.Set left xs) (token k.LeftBracket left ∷ ts) r
  group : {left right : Span} {x : Expr} {ts r : Tokens} → expr x ts (token k.RightParen right ∷ r)
      → IsFactor expr factor' (grouped left x) (token k.LeftParen left ∷ ts) r
  not : {at : Span} {x : Factor} {ts r : Tokens} → factor' x ts r → IsFactor expr factor' (f.Not at x)
      (token k.Not at ∷ ts) r

-- term = factor {operator factor}
pub data IsMultiplied (factor : Symbol Factor) : MultipliedFactor → Tokens → Tokens → Type 0 where
  multiplied : (op : Multiplying) (at : Span) (x : Factor) {ts r : Tokens} → factor x ts r → IsMultiplied factor
      (record { operator = op; at = at; factor = x }) (token (multiplying_kind op) at ∷ ts) r

pub data IsTerm (factor : Symbol Factor) : Term → Tokens → Tokens → Type 0 where
  term : (x : Factor) (xs : List MultipliedFactor) {ts m r : Tokens} → factor x ts m → Many (IsMultiplied factor) xs m r
      → IsTerm factor (roll-Term (record { first = x; more = xs })) ts r

-- simple = [sign] term {operator term}
pub data IsAdded (term : Symbol Term) : AddedTerm → Tokens → Tokens → Type 0 where
  added : (op : Adding) (at : Span) (x : Term) {ts r : Tokens} → term x ts r → IsAdded term
      (roll-AddedTerm (record { operator = op; at = at; term = x })) (token (adding_kind op) at ∷ ts) r

pub data IsSimple (term : Symbol Term) : Simple → Tokens → Tokens → Type 0 where
  plain : (x : Term) (xs : List AddedTerm) {ts m r : Tokens} → term x ts m → Many (IsAdded term) xs m r → IsSimple term
      (roll-Simple (record { sign = None; first = x; more = xs })) ts r
  signed : (s : Sign) (at : Span) (x : Term) (xs : List AddedTerm) {ts m r : Tokens} → term x ts m
      → Many (IsAdded term) xs m r → IsSimple term
      (roll-Simple (record { sign = Some (s, at); first = x; more = xs })) (token (sign_kind s) at ∷ ts) r

-- expr = simple [relation simple]
pub data IsExpr (simple : Symbol Simple) : Expr → Tokens → Tokens → Type 0 where
  alone : {x : Simple} {ts r : Tokens} → simple x ts r → IsExpr simple (e.Simple x) ts r
  compare : (op : Relational) (at : Span) (x y : Simple) {ts m r : Tokens}
      → simple x ts (token (relation_kind op) at ∷ m) → simple y m r → IsExpr simple (e.Compare x op at y) ts r

-- a factor in which nothing is higher than n
abbrev pub factor_within : ℕ → Symbol Factor
factor_within zero = IsFactor nothing nothing
factor_within (suc n) = IsFactor (IsExpr (IsSimple (IsTerm (factor_within n)))) (factor_within n)

-- an expression of a height of at most n
abbrev pub expr_within : ℕ → Symbol Expr
expr_within zero = nothing
expr_within (suc n) = IsExpr (IsSimple (IsTerm (factor_within n)))
