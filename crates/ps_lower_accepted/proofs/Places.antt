-- What a part of a text derives from ends where the rest begins: positions only rise.
use Rattle.std.proofs.Common.{ℕ, zero, suc, ◌≤◌, Bool, List, ◌∷◌, arith}
use Rattle.ps_scan.specs.Spans.{AreOrdered}
use Rattle.ps_scan.specs.declared.token.Kind.{Kind}
use Rattle.ps_scan.specs.declared.token.Token.{Token}
use Rattle.ps_syntax.specs.declared.expression.Expr.{Expr}
use Rattle.ps_syntax.specs.declared.expression.Simple.{Simple}
use Rattle.ps_syntax.specs.declared.expression.Term.{Term}
use Rattle.ps_syntax.specs.declared.expression.Factor.{Factor}
use Rattle.ps_syntax.specs.declared.statement.Statement.{Statement}
use Rattle.ps_syntax.specs.declared.program.Heading.{Heading}
use Rattle.ps_syntax.specs.declared.program.Section.{Section}
use Rattle.ps_parse_grammar.specs.Symbols.{Tokens, Symbol, nothing, Many, none, more, Separated, one, several}
use Rattle.ps_parse_grammar.specs.Symbols.{Terminated, exactly, trailing}
use Rattle.ps_parse_grammar.specs.Expressions as e
use Rattle.ps_parse_grammar.specs.Expressions.{IsMember, IsSelector, IsVariable, IsFactor, IsMultiplied, IsTerm}
use Rattle.ps_parse_grammar.specs.Expressions.{IsAdded, IsSimple, IsExpr, factor_within, expr_within}
use Rattle.ps_parse_grammar.specs.Statements as s
use Rattle.ps_parse_grammar.specs.Statements.{IsConstant, IsParameter, IsElement, InSequence, IsSequence, IsStatement}
use Rattle.ps_parse_grammar.specs.Statements.{statement_within}
use Rattle.ps_parse_grammar.specs.Programs as p
use Rattle.ps_parse_grammar.specs.Programs.{IsName, IsNames, IsSection, IsFormals, IsFormalList, IsHeading}
use Rattle.ps_parse_grammar.specs.Programs.{formals_within, heading_within}

-- ---- later tokens

-- from somewhere on these tokens are in order
abbrev pub Next : (low high : ℕ) → Tokens → Type 0
Next low high r = (next : ℕ) × (low ≤ next) × AreOrdered next high r

pub record Later (ts r : Tokens) : Type 0 where
  pub on : (low high : ℕ) → AreOrdered low high ts → Next low high r

pub same_place : (ts : Tokens) → Later ts ts
same_place ts = record { on = λ low high o. (low, omega arith, o) }

then_on : (ts m r : Tokens) → Later ts m → Later m r → (low high : ℕ) → AreOrdered low high ts → Next low high r
then_on ts m r f g low high o =
    let a = f.on low high o in
    let b = g.on a.0 high a.2 in
    (b.0, let x = a.1 in let y = b.1 in omega (arith, x, y), b.2)

pub then_later : (ts m r : Tokens) → Later ts m → Later m r → Later ts r
then_later ts m r f g = record { on = then_on ts m r f g }

behind_on : (t : Token) (ts r : Tokens) → Later ts r → (low high : ℕ) → AreOrdered low high (t ∷ ts) → Next low high r
behind_on t ts r f low high o =
    let a = f.on t.span.to high o.2 in
    (a.0, let x = a.1 in let y = o.0 in let z = o.1 in omega (arith, x, y, z), a.2)

-- after one token
pub behind : (t : Token) (ts r : Tokens) → Later ts r → Later (t ∷ ts) r
behind t ts r f = record { on = behind_on t ts r f }

-- up to a token, and after it
pub past : (t : Token) (ts m r : Tokens) → Later ts (t ∷ m) → Later m r → Later ts r
past t ts m r f g = then_later ts (t ∷ m) r f (behind t m r g)

-- what is read ends later
abbrev pub Goes : {T : Type 0} → Symbol T → Type 0
Goes {T} item = (x : T) (ts r : Tokens) → item x ts r → Later ts r

pub nothing_goes : {T : Type 0} → Goes (let S : Symbol T = nothing in S)
nothing_goes x ts r d = absurd d

module _ {T : Type 0} (item : Symbol T) (goes : Goes item) where
  pub many_go : Goes (Many item)
  many_go xs ts r none = same_place r
  many_go xs ts r (more {x = x} {xs = ys} {m = m} d ds) = then_later ts m r (goes x ts m d) (many_go ys m r ds)

  pub separated_go : (separator : Kind) → Goes (Separated separator item)
  separated_go k xs ts r (one {x = x} d) = goes x ts r d
  separated_go k xs ts r (several {x = x} {xs = ys} {m = m} d ds) = past _ ts m r (goes x ts _ d)
      (separated_go k ys m r ds)

  pub terminated_go : (separator : Kind) → Goes (Terminated separator item)
  terminated_go k xs ts r (exactly d) = separated_go k xs ts r d
  terminated_go k xs ts r (trailing d) = past _ ts r r (separated_go k xs ts _ d) (same_place r)

pub name_goes : Goes IsName
name_goes x ts r p.name = behind _ r r (same_place r)

pub names_go : Goes IsNames
names_go = separated_go IsName name_goes _

pub constant_goes : Goes IsConstant
constant_goes x ts r s.number = behind _ r r (same_place r)
constant_goes x ts r (s.signed_number q) = behind _ _ r (behind _ r r (same_place r))
constant_goes x ts r s.name = behind _ r r (same_place r)
constant_goes x ts r (s.signed_name q) = behind _ _ r (behind _ r r (same_place r))
constant_goes x ts r s.text = behind _ r r (same_place r)

-- ---- expressions

module _ (expr : Symbol Expr) (goes : Goes expr) where
  member_goes : Goes (IsMember expr)
  member_goes x ts r (e.single d) = goes _ ts r d
  member_goes x ts r (e.range {m = m} d f) = past _ ts m r (goes _ ts _ d) (goes _ m r f)

  selector_goes : Goes (IsSelector expr)
  selector_goes x ts r (e.index {ts = us} d) = behind _ us r
      (past _ us r r (separated_go expr goes _ _ us _ d) (same_place r))
  selector_goes x ts r e.field = behind _ _ r (behind _ r r (same_place r))
  selector_goes x ts r e.content = behind _ r r (same_place r)

  pub variable_goes : Goes (IsVariable expr)
  variable_goes x ts r (e.selected {xs = xs} {ts = us} d) = behind _ us r
      (many_go (IsSelector expr) selector_goes xs us r d)

  module _ (factor : Symbol Factor) (inner : Goes factor) where
    factor_goes : Goes (IsFactor expr factor)
    factor_goes x ts r (e.variable d) = variable_goes _ ts r d
    factor_goes x ts r (e.call {ts = us} d) = behind _ _ r
        (behind _ us r (past _ us r r (separated_go expr goes _ _ us _ d) (same_place r)))
    factor_goes x ts r e.number = behind _ r r (same_place r)
    factor_goes x ts r e.text = behind _ r r (same_place r)
    factor_goes x ts r e.nil = behind _ r r (same_place r)
    factor_goes x ts r e.empty = behind _ _ r (behind _ r r (same_place r))
    factor_goes x ts r (e.set {ts = us} d) = behind _ us r
        (past _ us r r (separated_go (IsMember expr) member_goes _ _ us _ d) (same_place r))
    factor_goes x ts r (e.group {ts = us} d) = behind _ us r (past _ us r r (goes _ us _ d) (same_place r))
    factor_goes x ts r (e.not {ts = us} d) = behind _ us r (inner _ us r d)

module _ (factor : Symbol Factor) (goes : Goes factor) where
  multiplied_goes : Goes (IsMultiplied factor)
  multiplied_goes x ts r (e.multiplied op at y {ts = us} d) = behind _ us r (goes y us r d)

  term_goes : Goes (IsTerm factor)
  term_goes x ts r (e.term y ys {m = m} d ds) = then_later ts m r (goes y ts m d)
      (many_go (IsMultiplied factor) multiplied_goes ys m r ds)

module _ (term : Symbol Term) (goes : Goes term) where
  added_goes : Goes (IsAdded term)
  added_goes x ts r (e.added op at y {ts = us} d) = behind _ us r (goes y us r d)

  simple_goes : Goes (IsSimple term)
  simple_goes x ts r (e.plain y ys {m = m} d ds) = then_later ts m r (goes y ts m d)
      (many_go (IsAdded term) added_goes ys m r ds)
  simple_goes x ts r (e.signed q at y ys {ts = us} {m = m} d ds) = behind _ us r
      (then_later us m r (goes y us m d) (many_go (IsAdded term) added_goes ys m r ds))

expr_goes : (simple : Symbol Simple) → Goes simple → Goes (IsExpr simple)
expr_goes simple goes x ts r (e.alone d) = goes _ ts r d
expr_goes simple goes x ts r (e.compare op at y z {m = m} d f) = past _ ts m r (goes y ts _ d) (goes z m r f)

mutual
  factors_go : (n : ℕ) → Goes (factor_within n)
  factors_go zero = factor_goes nothing nothing_goes nothing nothing_goes
  factors_go (suc n) = factor_goes (IsExpr (IsSimple (IsTerm (factor_within n))))
      (expr_goes (IsSimple (IsTerm (factor_within n)))
      (simple_goes (IsTerm (factor_within n)) (term_goes (factor_within n) (factors_go n)))) (factor_within n)
      (factors_go n)

pub exprs_go : (n : ℕ) → Goes (expr_within n)
exprs_go zero = nothing_goes
exprs_go (suc n) = expr_goes (IsSimple (IsTerm (factor_within n)))
    (simple_goes (IsTerm (factor_within n)) (term_goes (factor_within n) (factors_go n)))

-- ---- statements

module _ (expr : Symbol Expr) (goes : Goes expr) (statement : Bool → Symbol Statement)
    (inner : (ends : Bool) → Goes (statement ends)) where
  parameter_goes : Goes (IsParameter expr)
  parameter_goes x ts r (s.unformatted d) = goes _ ts r d
  parameter_goes x ts r (s.formatted {m = m} d f) = past _ ts m r (goes _ ts _ d) (goes _ m r f)

  element_goes : Goes (IsElement statement)
  element_goes x ts r (s.element cs y {ends = ends} {m = m} d f) = past _ ts m r
      (separated_go IsConstant constant_goes _ cs ts _ d) (inner ends y m r f)

  one_goes : Goes (InSequence statement)
  one_goes x ts r (s.in_sequence {ends = ends} d) = inner ends x ts r d

  pub sequence_goes : Goes (IsSequence statement)
  sequence_goes = separated_go (InSequence statement) one_goes _

  statement_goes : (ends : Bool) → Goes (IsStatement expr statement ends)
  statement_goes ends x ts r s.empty = same_place r
  statement_goes ends x ts r (s.assign {m = m} d f) = past _ ts m r (variable_goes expr goes _ ts _ d) (goes _ m r f)
  statement_goes ends x ts r s.procedure = behind _ r r (same_place r)
  statement_goes ends x ts r (s.call {ts = us} d) = behind _ _ r
      (behind _ us r (past _ us r r (separated_go (IsParameter expr) parameter_goes _ _ us _ d) (same_place r)))
  statement_goes ends x ts r (s.compound {ts = us} d) = behind _ us r
      (past _ us r r (sequence_goes _ us _ d) (same_place r))
  statement_goes ends x ts r (s.if_then {ends = f} {ts = us} {m = m} d g) = behind _ us r
      (past _ us m r (goes _ us _ d) (inner f _ m r g))
  statement_goes ends x ts r (s.if_else {ts = us} {l = l} {m = m} d f g) = behind _ us r
      (past _ us l r (goes _ us _ d) (past _ l m r (inner _ _ l _ f) (inner ends _ m r g)))
  statement_goes ends x ts r (s.case {ts = us} {m = m} d f) = behind _ us r
      (past _ us m r (goes _ us _ d) (past _ m r r (terminated_go (IsElement statement) element_goes _ _ m _ f)
      (same_place r)))
  statement_goes ends x ts r (s.while {ts = us} {m = m} d f) = behind _ us r
      (past _ us m r (goes _ us _ d) (inner ends _ m r f))
  statement_goes ends x ts r (s.repeat {ts = us} {m = m} d f) = behind _ us r
      (past _ us m r (sequence_goes _ us _ d) (goes _ m r f))
  statement_goes ends x ts r (s.for q {ts = us} {l = l} {m = m} d f g) = behind _ _ r
      (behind _ _ r (behind _ us r (past _ us l r (goes _ us _ d) (past _ l m r (goes _ l _ f) (inner ends _ m r g)))))
  statement_goes ends x ts r (s.with {ts = us} {m = m} d f) = behind _ us r
      (past _ us m r (separated_go (IsVariable expr) (variable_goes expr goes) _ _ us _ d) (inner ends _ m r f))

statements_go : (n : ℕ) (ends : Bool) → Goes (statement_within n ends)
statements_go zero ends = nothing_goes
statements_go (suc n) ends = statement_goes (expr_within n) (exprs_go n) (statement_within n) (statements_go n) ends

pub sequences_go : (n : ℕ) → Goes (IsSequence (statement_within n))
sequences_go n = sequence_goes (expr_within n) (exprs_go n) (statement_within n) (statements_go n)

-- ---- headings

section_goes : (heading : Symbol Heading) → Goes heading → Goes (IsSection heading)
section_goes heading goes x ts r (p.value d) = past _ ts _ r (names_go _ ts _ d) (behind _ r r (same_place r))
section_goes heading goes x ts r (p.variable {ts = us} d) = behind _ us r
    (past _ us _ r (names_go _ us _ d) (behind _ r r (same_place r)))
section_goes heading goes x ts r (p.routine d) = goes _ ts r d

list_goes : (heading : Symbol Heading) → Goes heading → Goes (IsFormalList heading)
list_goes heading goes x ts r (p.formals {ts = us} d) = behind _ us r
    (past _ us r r (separated_go (IsSection heading) (section_goes heading goes) _ _ us _ d) (same_place r))

formals_go : (formals : Symbol (List Section)) → Goes formals → Goes (IsFormals formals)
formals_go formals goes x ts r p.absent = same_place r
formals_go formals goes x ts r (p.present d) = goes x ts r d

heading_goes : (formals : Symbol (List Section)) → Goes formals → Goes (IsHeading formals)
heading_goes formals goes x ts r (p.procedure {xs = xs} {ts = us} d) = behind _ _ r
    (behind _ us r (formals_go formals goes xs us r d))
heading_goes formals goes x ts r (p.function {xs = xs} {ts = us} d) = behind _ _ r
    (behind _ us r (past _ us _ r (formals_go formals goes xs us _ d) (behind _ r r (same_place r))))

lists_go : (n : ℕ) → Goes (formals_within n)
lists_go zero = nothing_goes
lists_go (suc n) = list_goes (IsHeading (formals_within n)) (heading_goes (formals_within n) (lists_go n))

pub headings_go : (n : ℕ) → Goes (heading_within n)
headings_go n = heading_goes (formals_within n) (lists_go n)
