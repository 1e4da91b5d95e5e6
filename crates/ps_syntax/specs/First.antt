-- The place in the text where the first token of a part of the tree begins.
use Rattle.std.specs.Prelude.{ℕ, Option, Some, None}
use Rattle.ps_text.specs.declared.Span.{Span}
use Rattle.ps_syntax.specs.declared.expression.Sign.{Sign}
use Rattle.ps_syntax.specs.declared.expression.Expr.{Expr, out-Expr}
use Rattle.ps_syntax.specs.declared.expression.Expr.TheOpen.{Expr-F, Factor-F, Member-F}
use Rattle.ps_syntax.specs.declared.expression.Factor.{Factor, out-Factor}
use Rattle.ps_syntax.specs.declared.expression.Member.{Member, out-Member}
use Rattle.ps_syntax.specs.declared.expression.Selector.{Selector}
use Rattle.ps_syntax.specs.declared.expression.AddedTerm.{AddedTerm}
use Rattle.ps_syntax.specs.declared.expression.MultipliedFactor.{MultipliedFactor}
use Rattle.ps_syntax.specs.declared.expression.Simple.{Simple, out-Simple}
use Rattle.ps_syntax.specs.declared.expression.Term.{Term, out-Term}
use Rattle.ps_syntax.specs.declared.expression.Variable.{Variable}
use Rattle.ps_syntax.specs.declared.statement.Constant.{Constant}
use Rattle.ps_syntax.specs.declared.statement.Constant.TheVariants as c
use Rattle.ps_syntax.specs.declared.program.Ordinal.{Ordinal}
use Rattle.ps_syntax.specs.declared.program.Ordinal.TheVariants as o
use Rattle.ps_syntax.specs.declared.program.Fields.{Fields}
use Rattle.ps_syntax.specs.declared.program.Structure.{Structure, out-Structure}
use Rattle.ps_syntax.specs.declared.program.Structure.TheOpen.{Structure-F, TypeDenoter-F}
use Rattle.ps_syntax.specs.declared.program.TypeDenoter.{TypeDenoter, out-TypeDenoter}

-- a sign comes before what it applies to
abbrev pub sign_or : Option (Sign × Span) → ℕ → ℕ
sign_or None at = at
sign_or (Some s) at = s.1.from

-- ---- expressions (6.7.1)

abbrev pub FactorLayer : Type 0
FactorLayer = Factor-F Expr Factor Member Selector AddedTerm MultipliedFactor Simple Term Variable

abbrev pub factor_layer_first : FactorLayer → ℕ
factor_layer_first (Factor-F.Variable v) = v.name.from
factor_layer_first (Factor-F.Call at xs) = at.from
factor_layer_first (Factor-F.Number at) = at.from
factor_layer_first (Factor-F.Text at) = at.from
factor_layer_first (Factor-F.Nil at) = at.from
factor_layer_first (Factor-F.Set at xs) = at.from
factor_layer_first (Factor-F.Group at n x) = at.from
factor_layer_first (Factor-F.Not at x) = at.from

abbrev pub first_of_factor : Factor → ℕ
first_of_factor x = factor_layer_first (out-Factor x)

abbrev pub first_of_term : Term → ℕ
first_of_term x = first_of_factor (out-Term x).first

abbrev pub first_of_simple : Simple → ℕ
first_of_simple x = sign_or (out-Simple x).sign (first_of_term (out-Simple x).first)

abbrev pub ExprLayer : Type 0
ExprLayer = Expr-F Expr Factor Member Selector AddedTerm MultipliedFactor Simple Term Variable

abbrev pub expr_layer_first : ExprLayer → ℕ
expr_layer_first (Expr-F.Simple x) = first_of_simple x
expr_layer_first (Expr-F.Compare x op at y) = first_of_simple x

abbrev pub first_of_expr : Expr → ℕ
first_of_expr x = expr_layer_first (out-Expr x)

abbrev pub MemberLayer : Type 0
MemberLayer = Member-F Expr Factor Member Selector AddedTerm MultipliedFactor Simple Term Variable

abbrev pub member_layer_first : MemberLayer → ℕ
member_layer_first (Member-F.One x) = first_of_expr x
member_layer_first (Member-F.Range x y) = first_of_expr x

abbrev pub first_of_member : Member → ℕ
first_of_member x = member_layer_first (out-Member x)

-- ---- constants and types (6.3, 6.4)

abbrev pub first_of_constant : Constant → ℕ
first_of_constant (c.Number s at) = sign_or s at.from
first_of_constant (c.Name s at) = sign_or s at.from
first_of_constant (c.Text at) = at.from

abbrev pub first_of_ordinal : Ordinal → ℕ
first_of_ordinal (o.Name at) = at.from
first_of_ordinal (o.Enumeration at xs) = at.from
first_of_ordinal (o.Subrange x y) = first_of_constant x

abbrev pub StructureLayer : Type 0
StructureLayer = Structure-F Structure TypeDenoter Fields

abbrev pub structure_layer_first : StructureLayer → ℕ
structure_layer_first (Structure-F.Array at xs x) = at.from
structure_layer_first (Structure-F.Record at xs) = at.from
structure_layer_first (Structure-F.Set at x) = at.from

abbrev pub first_of_structure : Structure → ℕ
first_of_structure x = structure_layer_first (out-Structure x)

abbrev pub TypeLayer : Type 0
TypeLayer = TypeDenoter-F Structure TypeDenoter Fields

abbrev pub type_layer_first : TypeLayer → ℕ
type_layer_first (TypeDenoter-F.Ordinal x) = first_of_ordinal x
type_layer_first (TypeDenoter-F.Pointer at domain) = at.from
type_layer_first (TypeDenoter-F.Structure x) = first_of_structure x
type_layer_first (TypeDenoter-F.Packed at x) = at.from

abbrev pub first_of_type : TypeDenoter → ℕ
first_of_type x = type_layer_first (out-TypeDenoter x)
