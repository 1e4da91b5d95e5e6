-- The height of a tree: the greatest number of blocks, formal lists, types, index and base ordinals, statements,
-- expressions and factors after `not` that are nested in one another. Variables, terms, and the `begin` and `end` of a
-- block don't count.
use Rattle.std.specs.Prelude.{ℕ, suc, ◌+◌, max, List, [], ◌∷◌, map}
use Rattle.ps_syntax.specs.declared.expression.Expr.{Expr}
use Rattle.ps_syntax.specs.declared.expression.Factor.{Factor}
use Rattle.ps_syntax.specs.declared.expression.Member.{Member}
use Rattle.ps_syntax.specs.declared.expression.Selector.{Selector}
use Rattle.ps_syntax.specs.declared.expression.AddedTerm.{AddedTerm}
use Rattle.ps_syntax.specs.declared.expression.MultipliedFactor.{MultipliedFactor}
use Rattle.ps_syntax.specs.declared.expression.Simple.{Simple}
use Rattle.ps_syntax.specs.declared.expression.Term.{Term}
use Rattle.ps_syntax.specs.declared.expression.Variable.{Variable}
use Rattle.ps_syntax.specs.declared.expression.Expr.TheOpen.{Expr-F, Factor-F, Member-F, Selector-F}
use Rattle.ps_syntax.specs.declared.statement.Parameter.{Parameter}
use Rattle.ps_syntax.specs.declared.statement.Parameter.TheVariants as p
use Rattle.ps_syntax.specs.declared.statement.Statement.{Statement}
use Rattle.ps_syntax.specs.declared.statement.Element.{Element}
use Rattle.ps_syntax.specs.declared.statement.Statement.TheOpen.{Statement-F, Element-F}
use Rattle.ps_syntax.specs.declared.statement.Statement.TheFolds.{fold-Statement, fold-Element}
use Rattle.ps_syntax.specs.declared.program.TypeDenoter.{TypeDenoter}
use Rattle.ps_syntax.specs.declared.program.Structure.{Structure}
use Rattle.ps_syntax.specs.declared.program.Fields.{Fields}
use Rattle.ps_syntax.specs.declared.program.Structure.TheOpen.{Structure-F, TypeDenoter-F, Fields-F}
use Rattle.ps_syntax.specs.declared.program.Structure.TheFolds.{fold-TypeDenoter, fold-Structure, fold-Fields}
use Rattle.ps_syntax.specs.declared.program.Section.{Section}
use Rattle.ps_syntax.specs.declared.program.Heading.{Heading}
use Rattle.ps_syntax.specs.declared.program.Heading.TheOpen.{Heading-F, Section-F}
use Rattle.ps_syntax.specs.declared.program.Heading.TheFolds.{fold-Heading, fold-Section}
use Rattle.ps_syntax.specs.declared.program.TypeDefinition.{TypeDefinition}
use Rattle.ps_syntax.specs.declared.program.Variables.{Variables}
use Rattle.ps_syntax.specs.declared.program.Block.{Block}
use Rattle.ps_syntax.specs.declared.program.Routine.{Routine}
use Rattle.ps_syntax.specs.declared.program.Routine.TheOpen.{Routine-F, Block-F}
use Rattle.ps_syntax.specs.declared.program.Routine.TheFolds.{fold-Block, fold-Routine}
use Rattle.ps_syntax.specs.declared.program.Program.{Program}
use Rattle.ps_syntax.specs.Walks.{Steps, walk_expr, walk_factor, walk_member, walk_selector, walk_added}
use Rattle.ps_syntax.specs.Walks.{walk_multiplied, walk_simple, walk_term, walk_variable}

-- the greatest number of a list
abbrev pub greatest : List ℕ → ℕ
greatest [] = 0
greatest (n ∷ ns) = max n (greatest ns)

-- Each step is the height of a part, given those of the parts in it.

-- ---- expressions

abbrev pub selector_step : Selector-F ℕ ℕ ℕ ℕ ℕ ℕ ℕ ℕ ℕ → ℕ
selector_step (Selector-F.Index xs) = greatest xs
selector_step (Selector-F.Field at) = 0
selector_step (Selector-F.Content at) = 0

abbrev pub member_step : Member-F ℕ ℕ ℕ ℕ ℕ ℕ ℕ ℕ ℕ → ℕ
member_step (Member-F.One x) = x
member_step (Member-F.Range x y) = max x y

abbrev pub factor_step : Factor-F ℕ ℕ ℕ ℕ ℕ ℕ ℕ ℕ ℕ → ℕ
factor_step (Factor-F.Variable x) = x
factor_step (Factor-F.Call at xs) = greatest xs
factor_step (Factor-F.Number at) = 0
factor_step (Factor-F.Text at) = 0
factor_step (Factor-F.Nil at) = 0
factor_step (Factor-F.Set at xs) = greatest xs
factor_step (Factor-F.Group at n x) = n + x
factor_step (Factor-F.Not at x) = suc x

abbrev pub expr_step : Expr-F ℕ ℕ ℕ ℕ ℕ ℕ ℕ ℕ ℕ → ℕ
expr_step (Expr-F.Simple x) = suc x
expr_step (Expr-F.Compare x op at y) = suc (max x y)

abbrev pub heights : Steps ℕ
heights = record {
  expr = expr_step;
  factor = factor_step;
  member = member_step;
  selector = selector_step;
  added = λ x. x.term;
  multiplied = λ x. x.factor;
  simple = λ x. max x.first (greatest x.more);
  term = λ x. max x.first (greatest x.more);
  variable = λ x. greatest x.selectors;
}

abbrev pub height_of_expr : Expr → ℕ
height_of_expr = walk_expr heights

abbrev pub height_of_factor : Factor → ℕ
height_of_factor = walk_factor heights

abbrev pub height_of_member : Member → ℕ
height_of_member = walk_member heights

abbrev pub height_of_selector : Selector → ℕ
height_of_selector = walk_selector heights

abbrev pub height_of_added : AddedTerm → ℕ
height_of_added = walk_added heights

abbrev pub height_of_multiplied : MultipliedFactor → ℕ
height_of_multiplied = walk_multiplied heights

abbrev pub height_of_simple : Simple → ℕ
height_of_simple = walk_simple heights

abbrev pub height_of_term : Term → ℕ
height_of_term = walk_term heights

abbrev pub height_of_variable : Variable → ℕ
height_of_variable = walk_variable heights

-- ---- statements

abbrev pub height_of_parameter : Parameter → ℕ
height_of_parameter (p.Plain x) = height_of_expr x
height_of_parameter (p.Width x y) = max (height_of_expr x) (height_of_expr y)

abbrev pub element_step : Element-F ℕ ℕ → ℕ
element_step x = x.statement

abbrev pub statement_step : Statement-F ℕ ℕ → ℕ
statement_step Statement-F.Empty = 1
statement_step (Statement-F.Assign x at y) = suc (max (height_of_variable x) (height_of_expr y))
statement_step (Statement-F.Call at xs) = suc (greatest (map height_of_parameter xs))
statement_step (Statement-F.Compound xs) = suc (greatest xs)
statement_step (Statement-F.If x y) = suc (max (height_of_expr x) y)
statement_step (Statement-F.IfElse x y z) = suc (max (height_of_expr x) (max y z))
statement_step (Statement-F.Case at x xs) = suc (max (height_of_expr x) (greatest xs))
statement_step (Statement-F.While x y) = suc (max (height_of_expr x) y)
statement_step (Statement-F.Repeat xs x) = suc (max (greatest xs) (height_of_expr x))
statement_step (Statement-F.For at x direction y z) = suc (max (max (height_of_expr x) (height_of_expr y)) z)
statement_step (Statement-F.With xs x) = suc (max (greatest (map height_of_variable xs)) x)

abbrev pub height_of_statement : Statement → ℕ
height_of_statement = fold-Statement ℕ ℕ statement_step element_step

abbrev pub height_of_element : Element → ℕ
height_of_element = fold-Element ℕ ℕ statement_step element_step

-- ---- types. An ordinal counts as an index and as a base; an array has at least one index.

abbrev pub fields_step : Fields-F ℕ ℕ ℕ → ℕ
fields_step x = x.ty

abbrev pub structure_step : Structure-F ℕ ℕ ℕ → ℕ
structure_step (Structure-F.Array at xs x) = max 1 x
structure_step (Structure-F.Record at xs) = greatest xs
structure_step (Structure-F.Set at x) = 1

abbrev pub type_step : TypeDenoter-F ℕ ℕ ℕ → ℕ
type_step (TypeDenoter-F.Ordinal x) = 1
type_step (TypeDenoter-F.Pointer at domain) = 1
type_step (TypeDenoter-F.Structure x) = suc x
type_step (TypeDenoter-F.Packed at x) = suc x

abbrev pub height_of_type : TypeDenoter → ℕ
height_of_type = fold-TypeDenoter ℕ ℕ ℕ structure_step type_step fields_step

abbrev pub height_of_structure : Structure → ℕ
height_of_structure = fold-Structure ℕ ℕ ℕ structure_step type_step fields_step

abbrev pub height_of_fields : Fields → ℕ
height_of_fields = fold-Fields ℕ ℕ ℕ structure_step type_step fields_step

-- ---- formal lists. A list in parentheses is never empty, so no list is the empty one.

abbrev pub formals_step : List ℕ → ℕ
formals_step [] = 0
formals_step (n ∷ ns) = suc (greatest (n ∷ ns))

abbrev pub section_step : Section-F ℕ ℕ → ℕ
section_step (Section-F.Value xs ty) = 0
section_step (Section-F.Variable xs ty) = 0
section_step (Section-F.Routine x) = x

abbrev pub heading_step : Heading-F ℕ ℕ → ℕ
heading_step (Heading-F.Procedure at xs) = formals_step xs
heading_step (Heading-F.Function at xs ty) = formals_step xs

abbrev pub height_of_heading : Heading → ℕ
height_of_heading = fold-Heading ℕ ℕ heading_step section_step

abbrev pub height_of_section : Section → ℕ
height_of_section = fold-Section ℕ ℕ heading_step section_step

abbrev pub height_of_formals : List Section → ℕ
height_of_formals xs = formals_step (map height_of_section xs)

-- ---- blocks and programs

abbrev pub routine_step : Routine-F ℕ ℕ → ℕ
routine_step (Routine-F.Whole x b) = max (height_of_heading x) b
routine_step (Routine-F.Forward x) = height_of_heading x
routine_step (Routine-F.Completion at b) = b

abbrev pub height_of_types : List TypeDefinition → ℕ
height_of_types ds = greatest (map (λ (d : TypeDefinition). height_of_type d.ty) ds)

abbrev pub height_of_variables : List Variables → ℕ
height_of_variables ds = greatest (map (λ (d : Variables). height_of_type d.ty) ds)

abbrev pub block_step : Block-F ℕ ℕ → ℕ
block_step b = suc (max (max (height_of_types b.types) (height_of_variables b.variables))
    (max (greatest b.routines) (greatest (map height_of_statement b.statements))))

abbrev pub height_of_block : Block → ℕ
height_of_block = fold-Block ℕ ℕ routine_step block_step

abbrev pub height_of_routine : Routine → ℕ
height_of_routine = fold-Routine ℕ ℕ routine_step block_step

abbrev pub height_of : Program → ℕ
height_of x = height_of_block x.block
