-- Structured statements (6.8.3): conditions, `case`, `for` and `with`, given what the parts in them denote.
use Rattle.std.specs.Prelude.{ℕ, ◌==◌, ℤ, not, List, [], ◌∷◌, ◌++◌, Option, Some, None}
use Rattle.std.specs.List.{list_any}
use Rattle.std.specs.Ordering.{int_eq}
use Rattle.ps_syntax.specs.declared.statement.Constant.{Constant}
use Rattle.ps_syntax.specs.declared.statement.Direction as syntax
use Rattle.ps_syntax.specs.declared.statement.Direction.TheVariants.{Up, Down}
use Rattle.ps_syntax.specs.declared.expression.Expr.{Expr}
use Rattle.ps_syntax.specs.declared.expression.Variable as syntax_variable
use Rattle.ps_tree.specs.declared.types.Ordinal.{Ordinal}
use Rattle.ps_tree.specs.declared.tree.operators.Direction.{Direction}
use Rattle.ps_tree.specs.declared.tree.operators.Direction.TheVariants.{To, Downto}
use Rattle.ps_tree.specs.Types.{DataType, OrdinalType, RecordType, is_same_host, is_compatible}
use Rattle.ps_tree.specs.Tree as Tree
use Rattle.ps_check_judgement.specs.declared.refusal.Rule.TheVariants.{WrongType, CaseTwice, ControlVariable}
use Rattle.ps_check_judgement.specs.Judged as j
use Rattle.ps_check_judgement.specs.Judged.{Judged, Yes, No, provided, steps}
use Rattle.ps_check_judgement.specs.Changing.{Changing, ◌>>=◌, still}
use Rattle.ps_check_names.specs.Constants.{constant, misplaced, ConstantValue, OrdinalConstant, TextConstant}
use Rattle.ps_check_names.specs.Regions.{Context, Region, RecordRegion, Point, BlockPoint, FieldPoint, VariableMeaning}
use Rattle.ps_check_names.specs.Regions.{ParameterMeaning}
use Rattle.ps_syntax.specs.First.{first_of_constant, first_of_expr}
use Rattle.ps_check_expressions.specs.Values.{Value, SimpleValue, Variable, is_boolean}
use Rattle.ps_check_expressions.specs.Changed.{first_at}
use Rattle.ps_check_expressions.specs.Expressions.{operand, variable_operand}

-- 6.8.3.3, 6.8.3.7, 6.8.3.8: a condition is Boolean
unfoldable pub condition : (at : ℕ) → Value → Judged Tree.Expr
condition at (SimpleValue e type) = provided (is_boolean type) WrongType at e
condition at _ = No WrongType at

-- ---- case (6.8.3.5)

-- a case constant is of the index's host type
unfoldable pub case_constant : (at : ℕ) → Ordinal → ConstantValue → Judged ℤ
case_constant at o (OrdinalConstant p n) = provided (is_same_host o.host p.host) WrongType at n
case_constant at o (TextConstant w) = No WrongType at

abbrev pub case_label : Context → List Region → Ordinal → Constant → Judged ℤ
case_label c Γ o k = j.◌>>=◌ (constant c.text Γ k) (case_constant (first_of_constant k) o)

-- the case constants are distinct: none is among those before it, of its own element or of the elements before
abbrev pub fresh : (at : ℕ) → (seen own : List ℤ) → ℤ → Judged (List ℤ)
fresh at seen own n = provided (not (list_any (int_eq n) (seen ++ own))) CaseTwice at (own ++ n ∷ [])

-- one more constant of an element
abbrev pub next_label : Context → List Region → Ordinal → (seen : List ℤ) → List ℤ → Constant → Judged (List ℤ)
next_label c Γ o seen own k = j.◌>>=◌ (case_label c Γ o k) (fresh (first_of_constant k) seen own)

-- the constants of an element, after those that have been seen in the elements before it
unfoldable pub labels : Context → List Region → Ordinal → (seen : List ℤ) → List Constant → Judged (List ℤ)
labels c Γ o seen ks = steps (next_label c Γ o seen) [] ks

-- a case element: its constants, and its statement
abbrev pub TypedElement : Type 0
TypedElement = List ℤ × Tree.Statement

-- ---- for (6.8.3.9)

-- the control variable is declared in the variable part of the closest block, and is of an ordinal type
unfoldable pub control_at : (at : ℕ) → Point → Judged (ℕ × Ordinal)
control_at at (BlockPoint up (VariableMeaning entry (OrdinalType o))) = provided (up == 0) ControlVariable at (entry, o)
control_at at (BlockPoint up (VariableMeaning entry type)) = No WrongType at
control_at at (BlockPoint up (ParameterMeaning entry type)) = No ControlVariable at
control_at at (FieldPoint which record_type number type) = No ControlVariable at
control_at at p = misplaced at p

-- no routine of the block changes the control variable: the first change is reported
abbrev pub unchanged : Option ℕ → Judged (Unit {0})
unchanged None = Yes tt
unchanged (Some at) = No ControlVariable at

unfoldable pub unthreatened : Context → ℕ → Judged (Unit {0})
unthreatened c entry = unchanged (first_at entry c.inner)

-- the initial and the final value are compatible with it
unfoldable pub bound : (at : ℕ) → Ordinal → Value → Judged Tree.Expr
bound at o (SimpleValue e type) = provided (is_compatible type (OrdinalType o)) WrongType at e
bound at o _ = No WrongType at

abbrev pub bound_at : Context → List Region → Ordinal → Expr → Changing Tree.Expr
bound_at c Γ o x = (operand c Γ x).value >>= (λ v. still (bound (first_of_expr x) o v))

abbrev pub direction_of : syntax.Direction → Direction
direction_of Up = To
direction_of Down = Downto

-- what comes before `do`: the control variable with its type, and the two bounds with the lines of their first tokens
pub record Head : Type 0 where
  pub variable : ℕ
  pub type : Ordinal
  pub first : Tree.Expr
  pub first_line : ℕ
  pub direction : Direction
  pub last : Tree.Expr
  pub last_line : ℕ

abbrev pub repeated : Head → Tree.Statement → Tree.Statement
repeated h body = Tree.For h.variable h.type.low h.type.high h.first h.first_line h.direction h.last h.last_line body

-- the statement that is repeated doesn't threaten the control variable
abbrev pub with_control : Context → ℕ → Context
with_control c entry = record c { controls = entry ∷ c.controls }

-- ---- with (6.8.3.10)

-- the records so far, and the regions with their fields
abbrev pub Opening : Type 0
Opening = List Tree.Place × List Region

-- the region of a record's fields
unfoldable pub record_region : (at : ℕ) → DataType → Judged Region
record_region at (RecordType a packed fields) = Yes (RecordRegion (RecordType a packed fields) fields)
record_region at _ = No WrongType at

-- a record that is opened
abbrev pub opened : (at : ℕ) → Opening → Variable → Judged Opening
opened at o v = j.◌>>=◌ (record_region at v.type) (λ r. Yes (o.0 ++ v.place ∷ [], r ∷ o.1))

-- several records are opened one after the other, each within those before it
unfoldable pub open_next : Context → Opening → syntax_variable.Variable → Changing Opening
open_next c o x = (variable_operand c o.1 x).variable >>= (λ v. still (opened (variable_operand c o.1 x).first o v))
