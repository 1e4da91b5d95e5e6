-- The grammar of constants (ISO 7185 6.3), statements (6.8) and parameters of write (6.9.3): one constructor for each
-- alternative.
use Rattle.std.specs.Prelude.{ℕ, zero, suc, Bool, true, false, List, [], ◌∷◌, Some, None}
use Rattle.ps_text.specs.declared.Span.{Span}
use Rattle.ps_scan.specs.declared.token.Kind.{Kind}
use Rattle.ps_scan.specs.declared.token.Kind.TheVariants as k
use Rattle.ps_syntax.specs.declared.expression.Sign.{Sign}
use Rattle.ps_syntax.specs.declared.expression.Expr.{Expr}
use Rattle.ps_syntax.specs.declared.expression.Variable.{Variable}
use Rattle.ps_syntax.specs.declared.statement.Constant.{Constant}
use Rattle.ps_syntax.specs.declared.statement.Constant.TheVariants as c
use Rattle.ps_syntax.specs.declared.statement.Direction.{Direction}
use Rattle.ps_syntax.specs.declared.statement.Direction.TheVariants as direction
use Rattle.ps_syntax.specs.declared.statement.Parameter.{Parameter}
use Rattle.ps_syntax.specs.declared.statement.Parameter.TheVariants as p
use Rattle.ps_syntax.specs.declared.statement.Statement.{Statement}
use Rattle.ps_syntax.specs.declared.statement.Statement.TheVariants as s
use Rattle.ps_syntax.specs.declared.statement.Element.{Element, roll-Element}
use Rattle.ps_parse_grammar.specs.Symbols.{Tokens, Symbol, nothing, token, Separated, Terminated}
use Rattle.ps_parse_grammar.specs.Expressions.{sign_kind, IsVariable, expr_within}

abbrev pub direction_kind : Direction → Kind
direction_kind direction.Up = k.To
direction_kind direction.Down = k.Downto

-- constant = [sign] (number | name) | string
pub data IsConstant : Constant → Tokens → Tokens → Type 0 where
  number : {at : Span} {r : Tokens} → IsConstant (c.Number None at) (token k.Number at ∷ r) r
  signed_number : (s : Sign) {sign at : Span} {r : Tokens} → IsConstant (c.Number (Some (s, sign)) at)
      (token (sign_kind s) sign ∷ token k.Number at ∷ r) r
  name : {at : Span} {r : Tokens} → IsConstant (c.Name None at) (token k.Name at ∷ r) r
  signed_name : (s : Sign) {sign at : Span} {r : Tokens} → IsConstant (c.Name (Some (s, sign)) at)
      (token (sign_kind s) sign ∷ token k.Name at ∷ r) r
  text : {at : Span} {r : Tokens} → IsConstant (c.Text at) (token k.Text at ∷ r) r

-- wparam = expr [":" expr]
pub data IsParameter (expr : Symbol Expr) : Parameter → Tokens → Tokens → Type 0 where
  unformatted : {x : Expr} {ts r : Tokens} → expr x ts r → IsParameter expr (p.Plain x) ts r
  formatted : {x y : Expr} {ts m r : Tokens} {at : Span} → expr x ts (token k.Colon at ∷ m) → expr y m r
      → IsParameter expr (p.Width x y) ts r

-- The flag says that a statement ends in an if without an else. An else belongs to the nearest if that has none
-- (6.8.3.4), so no such statement comes before an else.

-- element = constant {"," constant} ":" statement
pub data IsElement (statement : Bool → Symbol Statement) : Element → Tokens → Tokens → Type 0 where
  element : (cs : List Constant) (x : Statement) {ends : Bool} {ts m r : Tokens} {at : Span}
      → Separated k.Comma IsConstant cs ts (token k.Colon at ∷ m) → statement ends x m r → IsElement statement
      (roll-Element (record { constants = cs; statement = x })) ts r

-- a statement of a sequence
pub data InSequence (statement : Bool → Symbol Statement) : Statement → Tokens → Tokens → Type 0 where
  in_sequence : {ends : Bool} {x : Statement} {ts r : Tokens} → statement ends x ts r → InSequence statement x ts r

-- sequence = statement {";" statement}
abbrev pub IsSequence : (Bool → Symbol Statement) → Symbol (List Statement)
IsSequence statement = Separated k.Semicolon (InSequence statement)

pub data IsStatement (expr : Symbol Expr) (statement : Bool → Symbol Statement)
    : Bool → Statement → Tokens → Tokens → Type 0 where
  empty : {r : Tokens} → IsStatement expr statement false s.Empty r r
  assign : {v : Variable} {at : Span} {x : Expr} {ts m r : Tokens} → IsVariable expr v ts (token k.Assign at ∷ m)
      → expr x m r → IsStatement expr statement false (s.Assign v at x) ts r
  procedure : {at : Span} {r : Tokens} → IsStatement expr statement false (s.Call at []) (token k.Name at ∷ r) r
  call : {at left right : Span} {xs : List Parameter} {ts r : Tokens} → Separated k.Comma (IsParameter expr) xs ts
      (token k.RightParen right ∷ r) → IsStatement expr statement false (s.Call at xs)
      (token k.Name at ∷ token k.LeftParen left ∷ ts) r
  compound : {at end : Span} {xs : List Statement} {ts r : Tokens} → IsSequence statement xs ts (token k.End end ∷ r)
      → IsStatement expr statement false (s.Compound xs) (token k.Begin at ∷ ts) r
  if_then : {at next : Span} {c : Expr} {x : Statement} {ends : Bool} {ts m r : Tokens} → expr c ts
      (token k.Then next ∷ m) → statement ends x m r → IsStatement expr statement true (s.If c x) (token k.If at ∷ ts) r
  if_else : {at next other : Span} {c : Expr} {x y : Statement} {ends : Bool} {ts l m r : Tokens} → expr c ts
      (token k.Then next ∷ l) → statement false x l (token k.Else other ∷ m) → statement ends y m r
      → IsStatement expr statement ends (s.IfElse c x y) (token k.If at ∷ ts) r
  case : {at of end : Span} {x : Expr} {xs : List Element} {ts m r : Tokens} → expr x ts (token k.Of of ∷ m)
      → Terminated k.Semicolon (IsElement statement) xs m (token k.End end ∷ r)
      → IsStatement expr statement false (s.Case at x xs) (token k.Case at ∷ ts) r
  while : {at do' : Span} {c : Expr} {x : Statement} {ends : Bool} {ts m r : Tokens} → expr c ts (token k.Do do' ∷ m)
      → statement ends x m r → IsStatement expr statement ends (s.While c x) (token k.While at ∷ ts) r
  repeat : {at until : Span} {xs : List Statement} {c : Expr} {ts m r : Tokens} → IsSequence statement xs ts
      (token k.Until until ∷ m) → expr c m r → IsStatement expr statement false (s.Repeat xs c)
      (token k.Repeat at ∷ ts) r
  for : (d : Direction) {at name becomes to do' : Span} {x y : Expr} {z : Statement} {ends : Bool} {ts l m r : Tokens}
      → expr x ts (token (direction_kind d) to ∷ l) → expr y l (token k.Do do' ∷ m) → statement ends z m r
      → IsStatement expr statement ends (s.For name x d y z)
      (token k.For at ∷ token k.Name name ∷ token k.Assign becomes ∷ ts) r
  with : {at do' : Span} {vs : List Variable} {x : Statement} {ends : Bool} {ts m r : Tokens}
      → Separated k.Comma (IsVariable expr) vs ts (token k.Do do' ∷ m) → statement ends x m r
      → IsStatement expr statement ends (s.With vs x) (token k.With at ∷ ts) r

-- a statement of a height of at most n
abbrev pub statement_within : ℕ → Bool → Symbol Statement
statement_within zero ends = nothing
statement_within (suc n) ends = IsStatement (expr_within n) (statement_within n) ends
