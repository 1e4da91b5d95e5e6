-- The typing of statements (6.8): the checked statement for each, given those of the statements in it.
use Rattle.std.specs.Prelude.{ℕ, ℤ, List, [], ◌∷◌, ◌++◌}
use Rattle.ps_text.specs.declared.Span.{Span}
use Rattle.ps_syntax.specs.First.{first_of_expr}
use Rattle.ps_syntax.specs.declared.expression.Expr.{Expr}
use Rattle.ps_syntax.specs.declared.expression.Variable.{Variable}
use Rattle.ps_syntax.specs.declared.statement.Direction.{Direction}
use Rattle.ps_syntax.specs.declared.statement.Statement as syntax
use Rattle.ps_syntax.specs.declared.statement.Element as syntax_element
use Rattle.ps_syntax.specs.declared.statement.Statement.TheOpen.{Statement-F, Element-F}
use Rattle.ps_syntax.specs.declared.statement.Statement.TheFolds.{fold-Statement, fold-Element}
use Rattle.ps_tree.specs.declared.types.Ordinal.{Ordinal}
use Rattle.ps_tree.specs.Tree as Tree
use Rattle.ps_check_judgement.specs.Changing.{Changing, ◌>>=◌, same, still, each, through}
use Rattle.ps_check_names.specs.Spelling.{line_in}
use Rattle.ps_check_names.specs.Regions.{Context, Region}
use Rattle.ps_check_expressions.specs.Values.{ordinal_of}
use Rattle.ps_check_expressions.specs.Names.{denoted}
use Rattle.ps_check_expressions.specs.Changed.{changed}
use Rattle.ps_check_expressions.specs.Expressions.{operand}
use Rattle.ps_check_statements.specs.Assignments.{assignment}
use Rattle.ps_check_statements.specs.Structured.{TypedElement, condition, labels, control_at, unthreatened, bound_at}
use Rattle.ps_check_statements.specs.Structured.{direction_of, Head, Opening, repeated, with_control, open_next}
use Rattle.ps_check_statements.specs.Procedures.{procedure_statement}

-- ---- lists of the checked tree

abbrev pub statement_list : List Tree.Statement → Tree.Statements
statement_list [] = Tree.no_statement
statement_list (s ∷ rest) = Tree.statement_before s (statement_list rest)

abbrev pub element_list : List TypedElement → Tree.Elements
element_list [] = Tree.no_element
element_list (e ∷ rest) = Tree.element_before e.0 e.1 (element_list rest)

-- ---- what the parts are taken as: a statement in some context and regions, and a case element also by the type of the
-- index and the constants before

abbrev pub Reading : Type 0
Reading = Context → List Region → Changing Tree.Statement

abbrev pub ElementReading : Type 0
ElementReading = Context → List Region → Ordinal → (seen : List ℤ) → Changing TypedElement

abbrev pub sequence_in : Context → List Region → List Reading → Changing Tree.Statements
sequence_in c Γ ss = each (λ s. s c Γ) ss >>= (λ ts. same (statement_list ts))

-- 6.8.3.2
abbrev pub compound_statement : Changing Tree.Statements → Changing Tree.Statement
compound_statement ss = ss >>= (λ body. same (Tree.Compound body))

abbrev pub condition_at : Context → List Region → Expr → Changing Tree.Expr
condition_at c Γ x = (operand c Γ x).value >>= (λ v. still (condition (first_of_expr x) v))

-- the line of the first token
abbrev pub line_of : Context → Expr → ℕ
line_of c x = line_in c.text (first_of_expr x)

-- a condition, and the statement that it governs
abbrev pub governed : Context → List Region → Expr → Reading → Changing (Tree.Expr × Tree.Statement)
governed c Γ x s = do
  e ← condition_at c Γ x
  body ← s c Γ
  same (e, body)

-- 6.8.3.4
abbrev pub if_statement : Context → List Region → Expr → Reading → Changing Tree.Statement
if_statement c Γ x s = governed c Γ x s >>= (λ p. same (Tree.If p.0 p.1))

abbrev pub if_else_statement : Context → List Region → Expr → Reading → Reading → Changing Tree.Statement
if_else_statement c Γ x s t = do
  p ← governed c Γ x s
  otherwise ← t c Γ
  same (Tree.IfElse p.0 p.1 otherwise)

-- 6.8.3.5: the index is of an ordinal type
abbrev pub index_at : Context → List Region → Expr → Changing (Tree.Expr × Ordinal)
index_at c Γ x = (operand c Γ x).value >>= (λ v. still (ordinal_of (first_of_expr x) v))

-- one more element, after the constants that have been seen and the elements
abbrev pub one_element : Context → List Region → Ordinal → List ℤ × List TypedElement → ElementReading → Changing
    (List ℤ × List TypedElement)
one_element c Γ o done e = e c Γ o done.0 >>= (λ t. same (done.0 ++ t.0, done.1 ++ t ∷ []))

abbrev pub elements : Context → List Region → Ordinal → List ElementReading → Changing (List TypedElement)
elements c Γ o es = through (one_element c Γ o) ([], []) es >>= (λ done. same done.1)

abbrev pub case_statement : Context → List Region → Span → Expr → List ElementReading → Changing Tree.Statement
case_statement c Γ at x es = do
  index ← index_at c Γ x
  typed ← elements c Γ index.1 es
  same (Tree.Case index.0 (element_list typed) (line_in c.text at.from))

-- 6.8.3.7
abbrev pub repeat_statement : Context → List Region → Changing Tree.Statements → Expr → Changing Tree.Statement
repeat_statement c Γ ss x = do
  body ← ss
  e ← condition_at c Γ x
  same (Tree.Repeat body e)

-- 6.8.3.8
abbrev pub while_statement : Context → List Region → Expr → Reading → Changing Tree.Statement
while_statement c Γ x s = governed c Γ x s >>= (λ p. same (Tree.While p.0 p.1))

-- 6.8.3.9: the control variable, which the statement changes: that is reported for an enclosing `for` statement; and no
-- routine of the block changes it
abbrev pub control_of : Context → List Region → Span → Changing (ℕ × Ordinal)
control_of c Γ name = do
  p ← still (denoted c Γ name)
  control ← still (control_at name.from p)
  _ ← changed c (Tree.Variable (Tree.Entry 0 control.0) Tree.no_selector) name.from
  _ ← still (unthreatened c control.0)
  same control

abbrev pub for_head : Context → List Region → Span → Expr → Direction → Expr → Changing Head
for_head c Γ name x direction y = do
  control ← control_of c Γ name
  first ← bound_at c Γ control.1 x
  last ← bound_at c Γ control.1 y
  same (record {
    variable = control.0;
    type = control.1;
    first = first;
    first_line = line_of c x;
    direction = direction_of direction;
    last = last;
    last_line = line_of c y;
  })

abbrev pub for_behind : Context → List Region → Reading → Head → Changing Tree.Statement
for_behind c Γ s h = s (with_control c h.variable) Γ >>= (λ body. same (repeated h body))

abbrev pub for_statement : Context → List Region → Span → Expr → Direction → Expr → Reading → Changing Tree.Statement
for_statement c Γ name x direction y s = for_head c Γ name x direction y >>= for_behind c Γ s

-- 6.8.3.10: with some records open already
abbrev pub with_behind : Context → Opening → List Variable → Reading → Changing Tree.Statement
with_behind c opening xs s = do
  o ← through (open_next c) opening xs
  body ← s c o.1
  same (Tree.With o.0 body)

unfoldable pub statement_step : Statement-F Reading ElementReading → Reading
statement_step Statement-F.Empty c Γ = same Tree.Empty
statement_step (Statement-F.Assign x at y) c Γ = assignment c Γ x at y
statement_step (Statement-F.Call name ps) c Γ = procedure_statement c Γ name ps
statement_step (Statement-F.Compound ss) c Γ = compound_statement (sequence_in c Γ ss)
statement_step (Statement-F.If x s) c Γ = if_statement c Γ x s
statement_step (Statement-F.IfElse x s t) c Γ = if_else_statement c Γ x s t
statement_step (Statement-F.Case at x es) c Γ = case_statement c Γ at x es
statement_step (Statement-F.While x s) c Γ = while_statement c Γ x s
statement_step (Statement-F.Repeat ss x) c Γ = repeat_statement c Γ (sequence_in c Γ ss) x
statement_step (Statement-F.For name x direction y s) c Γ = for_statement c Γ name x direction y s
statement_step (Statement-F.With xs s) c Γ = with_behind c ([], Γ) xs s

-- the constants come before the statement
unfoldable pub element_step : Element-F Reading ElementReading → ElementReading
element_step x c Γ o seen = do
  own ← still (labels c Γ o seen x.constants)
  body ← x.statement c Γ
  same (own, body)

-- ---- the judgement

unfoldable pub statement : syntax.Statement → Reading
statement = fold-Statement Reading ElementReading statement_step element_step

unfoldable pub element : syntax_element.Element → ElementReading
element = fold-Element Reading ElementReading statement_step element_step

-- 6.8.3.2: a sequence of statements
unfoldable pub statements : Context → List Region → List syntax.Statement → Changing Tree.Statements
statements c Γ list = each (λ s. statement s c Γ) list >>= (λ ts. same (statement_list ts))
