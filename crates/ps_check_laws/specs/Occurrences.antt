-- The uses of names in statements and expressions, in the order of the text: a walk over the tree. Each is given with
-- the `with` statements that enclose it (6.8.3.10). The names of fields after a point aren't among them: they are
-- looked up in the type of the record before the point (6.5.3.3).
use Rattle.std.specs.Prelude.{List, [], ◌∷◌, ◌++◌, map}
use Rattle.ps_text.specs.declared.Span.{Span}
use Rattle.ps_syntax.specs.declared.expression.Expr.{Expr}
use Rattle.ps_syntax.specs.declared.expression.Variable.{Variable}
use Rattle.ps_syntax.specs.declared.expression.Expr.TheOpen.{Expr-F, Factor-F, Member-F, Selector-F}
use Rattle.ps_syntax.specs.declared.statement.Constant.{Constant}
use Rattle.ps_syntax.specs.declared.statement.Constant.TheVariants as constant
use Rattle.ps_syntax.specs.declared.statement.Parameter.{Parameter}
use Rattle.ps_syntax.specs.declared.statement.Parameter.TheVariants.{Plain, Width}
use Rattle.ps_syntax.specs.declared.statement.Statement.{Statement}
use Rattle.ps_syntax.specs.declared.statement.Statement.TheOpen.{Statement-F, Element-F}
use Rattle.ps_syntax.specs.declared.statement.Statement.TheFolds.{fold-Statement}
use Rattle.ps_check_declarations.specs.Points.{Points, all}
use Rattle.ps_check_laws.specs.Definitions.{joined}
use Rattle.ps_syntax.specs.Walks.{Steps, walk_expr, walk_variable}

-- ---- expressions (6.5, 6.7): the names of variables, functions and constants

abbrev pub expr_step : Expr-F Points Points Points Points Points Points Points Points Points → Points
expr_step (Expr-F.Simple x) = x
expr_step (Expr-F.Compare x relation at y) = x ++ y

abbrev pub factor_step : Factor-F Points Points Points Points Points Points Points Points Points → Points
factor_step (Factor-F.Variable x) = x
factor_step (Factor-F.Call name xs) = name ∷ all xs
factor_step (Factor-F.Number at) = []
factor_step (Factor-F.Text at) = []
factor_step (Factor-F.Nil at) = []
factor_step (Factor-F.Set at members) = all members
factor_step (Factor-F.Group at n x) = x
factor_step (Factor-F.Not at x) = x

abbrev pub member_step : Member-F Points Points Points Points Points Points Points Points Points → Points
member_step (Member-F.One x) = x
member_step (Member-F.Range x y) = x ++ y

abbrev pub selector_step : Selector-F Points Points Points Points Points Points Points Points Points → Points
selector_step (Selector-F.Index xs) = all xs
selector_step (Selector-F.Field at) = []
selector_step (Selector-F.Content at) = []

abbrev pub uses : Steps Points
uses = record {
  expr = expr_step;
  factor = factor_step;
  member = member_step;
  selector = selector_step;
  added = λ x. x.term;
  multiplied = λ x. x.factor;
  simple = λ x. x.first ++ all x.more;
  term = λ x. x.first ++ all x.more;
  variable = λ x. x.name ∷ all x.selectors;
}

abbrev pub expr_uses : Expr → Points
expr_uses = walk_expr uses

abbrev pub variable_uses : Variable → Points
variable_uses = walk_variable uses

unfoldable pub constant_uses : Constant → Points
constant_uses (constant.Number sign at) = []
constant_uses (constant.Name sign at) = at ∷ []
constant_uses (constant.Text at) = []

unfoldable pub parameter_uses : Parameter → Points
parameter_uses (Plain x) = expr_uses x
parameter_uses (Width x width) = expr_uses x ++ expr_uses width

-- ---- statements (6.8)

-- a use: the name, and the record variables of the `with`s that open them around it, from the inside out
pub record Use : Type 0 where
  pub name : Span
  pub opened : List Variable

abbrev pub Uses : Type 0
Uses = List Use

-- with no `with` of the statement around them
abbrev pub plain : Points → Uses
plain names = map (λ name. record { name = name; opened = [] }) names

-- with one more record opened, outside the others
abbrev pub within : Variable → Uses → Uses
within x uses = map (λ u. record { name = u.name; opened = u.opened ++ x ∷ [] }) uses

-- Each record variable is used with those before it open, and the statement with all of them open.
abbrev pub with_uses : List Variable → Uses → Uses
with_uses [] statement = statement
with_uses (x ∷ xs) statement = plain (variable_uses x) ++ within x (with_uses xs statement)

abbrev pub statement_step : Statement-F Uses Uses → Uses
statement_step Statement-F.Empty = []
statement_step (Statement-F.Assign x at y) = plain (variable_uses x) ++ plain (expr_uses y)
statement_step (Statement-F.Call name parameters) = plain (name ∷ all (map parameter_uses parameters))
statement_step (Statement-F.Compound statements) = joined statements
statement_step (Statement-F.If x s) = plain (expr_uses x) ++ s
statement_step (Statement-F.IfElse x s t) = plain (expr_uses x) ++ s ++ t
statement_step (Statement-F.Case at x elements) = plain (expr_uses x) ++ joined elements
statement_step (Statement-F.While x s) = plain (expr_uses x) ++ s
statement_step (Statement-F.Repeat statements x) = joined statements ++ plain (expr_uses x)
statement_step (Statement-F.For name x direction y s) = plain (name ∷ expr_uses x ++ expr_uses y) ++ s
statement_step (Statement-F.With xs s) = with_uses xs s

abbrev pub element_step : Element-F Uses Uses → Uses
element_step x = plain (all (map constant_uses x.constants)) ++ x.statement

abbrev pub statement_uses : Statement → Uses
statement_uses = fold-Statement Uses Uses statement_step element_step

-- for a sequence of statements
abbrev pub statements_uses : List Statement → Uses
statements_uses statements = joined (map statement_uses statements)
