-- The operators (6.7.2): their results for given operands, if the types are right.
use Rattle.std.specs.Prelude.{ℕ, Bool, true, false, ◌&&◌, if◌then◌else◌, Option, Some, None, is_some}
use Rattle.ps_syntax.specs.declared.expression.Sign.{Sign}
use Rattle.ps_syntax.specs.declared.expression.Sign.TheVariants as sign
use Rattle.ps_syntax.specs.declared.expression.Adding.{Adding}
use Rattle.ps_syntax.specs.declared.expression.Adding.TheVariants as adding
use Rattle.ps_syntax.specs.declared.expression.Multiplying.{Multiplying}
use Rattle.ps_syntax.specs.declared.expression.Multiplying.TheVariants as multiplying
use Rattle.ps_syntax.specs.declared.expression.Relational.{Relational}
use Rattle.ps_syntax.specs.declared.expression.Relational.TheVariants as relation
use Rattle.ps_tree.specs.declared.tree.operators.ArithmeticOperator.{ArithmeticOperator}
use Rattle.ps_tree.specs.declared.tree.operators.ArithmeticOperator.TheVariants.{Add, Subtract, Multiply, Div, Mod}
use Rattle.ps_tree.specs.declared.tree.operators.BooleanOperator.{BooleanOperator}
use Rattle.ps_tree.specs.declared.tree.operators.BooleanOperator.TheVariants.{And, Or}
use Rattle.ps_tree.specs.declared.tree.operators.SetOperator.{SetOperator}
use Rattle.ps_tree.specs.declared.tree.operators.SetOperator.TheVariants.{Union, Difference, Intersection}
use Rattle.ps_tree.specs.declared.tree.operators.OrderRelation as tree
use Rattle.ps_tree.specs.declared.tree.operators.OrderRelation.TheVariants as r
use Rattle.ps_tree.specs.declared.tree.operators.PointerRelation.{PointerRelation}
use Rattle.ps_tree.specs.declared.tree.operators.PointerRelation.TheVariants as pointers
use Rattle.ps_tree.specs.declared.tree.operators.SetRelation.{SetRelation}
use Rattle.ps_tree.specs.declared.tree.operators.SetRelation.TheVariants as sets
use Rattle.ps_tree.specs.Types.{DataType, OrdinalType, PointerType, NilType, SetType, EmptySetType, is_same_host}
use Rattle.ps_tree.specs.Types.{are_same, string_length, is_compatible}
use Rattle.ps_tree.specs.declared.types.Host.{Host}
use Rattle.ps_tree.specs.declared.types.Host.TheVariants.{Integer, Boolean}
use Rattle.ps_tree.specs.Tree as Tree
use Rattle.ps_check_judgement.specs.declared.refusal.Rule.TheVariants.{WrongType}
use Rattle.ps_check_judgement.specs.Judged.{Judged, Yes, No, ◌>>=◌, provided}
use Rattle.ps_tree.specs.Chains.{calculated, connected, combined}
use Rattle.ps_check_expressions.specs.declared.operators.Operands.{Operands}
use Rattle.ps_check_expressions.specs.Values.{Value, SimpleValue, SetValue, StructureValue, has_host, set_type_of_both}
use Rattle.ps_check_expressions.specs.Values.{type_of_value}
use Rattle.ps_check_names.specs.Constants.{integer, boolean}

-- ---- operands, and the result of an operator on them

abbrev pub number : Tree.Expr → Value
number e = SimpleValue e (OrdinalType integer)

abbrev pub truth : Tree.Expr → Value
truth e = SimpleValue e (OrdinalType boolean)

-- an operand of a host type, or of a subrange of it, which begins at `at`
unfoldable pub operand_of : Host → (at : ℕ) → Value → Judged Tree.Expr
operand_of host at (SimpleValue e type) = provided (has_host host type) WrongType at e
operand_of host at _ = No WrongType at

-- ---- signs and `not` (6.7.2.2, 6.7.2.3): a sign applies to the whole first term

unfoldable pub with_sign : (at : ℕ) → Sign → ℕ → Value → Judged Value
with_sign at sign.Plus line v = operand_of Integer at v >>= (λ e. Yes (number (Tree.Plus e)))
with_sign at sign.Minus line v = operand_of Integer at v >>= (λ e. Yes (number (Tree.Minus e line)))

unfoldable pub negated : (at : ℕ) → Value → Judged Value
negated at v = operand_of Boolean at v >>= (λ e. Yes (truth (Tree.Not e)))

-- ---- operators on two operands

-- on integers (6.7.2.2)
unfoldable pub arithmetic : Operands → ArithmeticOperator → ℕ → Value → Value → Judged Value
arithmetic at operator line v w = operand_of Integer at.first v
    >>= (λ a. operand_of Integer at.second w >>= (λ b. Yes (number (calculated operator line a b))))

-- on integers or on sets of compatible types (6.7.2.4)
unfoldable pub arithmetic_or_set : Operands → ArithmeticOperator → SetOperator → ℕ → Value → Value → Judged Value
arithmetic_or_set at operator sets line (SetValue a s) (SetValue b t) =
    provided (is_compatible s t) WrongType at.second (SetValue (combined sets a b) (set_type_of_both s t))
arithmetic_or_set at operator sets line (SetValue a s) w = No WrongType at.second
arithmetic_or_set at operator sets line v w = arithmetic at operator line v w

-- on Boolean operands (6.7.2.3)
unfoldable pub logic : Operands → BooleanOperator → Value → Value → Judged Value
logic at operator v w = operand_of Boolean at.first v
    >>= (λ a. operand_of Boolean at.second w >>= (λ b. Yes (truth (connected operator a b))))

unfoldable pub added : Operands → Adding → ℕ → Value → Value → Judged Value
added at adding.Plus line a b = arithmetic_or_set at Add Union line a b
added at adding.Minus line a b = arithmetic_or_set at Subtract Difference line a b
added at adding.Or line a b = logic at Or a b

unfoldable pub multiplied : Operands → Multiplying → ℕ → Value → Value → Judged Value
multiplied at multiplying.Times line a b = arithmetic_or_set at Multiply Intersection line a b
multiplied at multiplying.Div line a b = arithmetic at Div line a b
multiplied at multiplying.Mod line a b = arithmetic at Mod line a b
multiplied at multiplying.And line a b = logic at And a b

-- ---- relational operators (6.7.2.5)

-- on ordinals and strings: all six
abbrev pub ordered : Relational → Option tree.OrderRelation
ordered relation.Equal = Some r.Equal
ordered relation.NotEqual = Some r.Different
ordered relation.Less = Some r.Less
ordered relation.Greater = Some r.Greater
ordered relation.LessEqual = Some r.AtMost
ordered relation.GreaterEqual = Some r.AtLeast
ordered relation.In = None

-- on pointers and nil: `=` and `<>`
abbrev pub of_pointers : Relational → Option PointerRelation
of_pointers relation.Equal = Some pointers.Same
of_pointers relation.NotEqual = Some pointers.Other
of_pointers _ = None

-- on sets: these and inclusion
abbrev pub of_sets : Relational → Option SetRelation
of_sets relation.Equal = Some sets.Same
of_sets relation.NotEqual = Some sets.Other
of_sets relation.LessEqual = Some sets.Included
of_sets relation.GreaterEqual = Some sets.Includes
of_sets _ = None

-- a value of the type may be the first operand of the relation by itself
unfoldable pub may_be_first : Relational → DataType → Bool
may_be_first relation (OrdinalType o) = true
may_be_first relation (PointerType n) = is_some (of_pointers relation)
may_be_first relation NilType = is_some (of_pointers relation)
may_be_first relation (SetType a k o) = is_some (of_sets relation)
may_be_first relation EmptySetType = is_some (of_sets relation)
may_be_first relation type = is_some (ordered relation) && is_some (string_length type)

-- Operands that don't go together: the second is reported, unless the first is never allowed there.
abbrev pub unlike : {A : Type 0} → Operands → Relational → DataType → Judged A
unlike at relation first = No WrongType (if may_be_first relation first then at.second else at.first)

-- what a relation makes, if it is one of these operands
abbrev pub related : {R : Type 0} → (at : ℕ) → Option R → (R → Tree.Expr) → Judged Value
related at None make = No WrongType at
related at (Some s) make = Yes (truth (make s))

-- two ordinals, or two pointers or nil, of types that are compatible
unfoldable pub simple_comparison : Operands → Relational → Tree.Expr → Tree.Expr → DataType → Judged Value
simple_comparison at relation a b (OrdinalType o) = related at.second (ordered relation) (λ s. Tree.Compare s a b)
simple_comparison at relation a b _ = related at.first (of_pointers relation) (λ s. Tree.ComparePointers s a b)

-- an ordinal is compared with the members' host type; [] is of every set type
abbrev pub may_be_member : DataType → DataType → Bool
may_be_member (OrdinalType o) (SetType a k p) = is_same_host o.host p.host
may_be_member (OrdinalType o) EmptySetType = true
may_be_member _ _ = false

abbrev pub is_in : Relational → Bool
is_in relation.In = true
is_in _ = false

-- for operands that go together, and a relation that is one of theirs
abbrev pub together : {R : Type 0} → Operands → Relational → DataType → Bool → Option R → (R → Tree.Expr) → Judged Value
together at relation first fit None make = unlike at relation first
together at relation first fit (Some s) make = if fit then Yes (truth (make s)) else unlike at relation first

unfoldable pub compared : Operands → Relational → Value → Value → Judged Value
compared at relation (SimpleValue a s) (SimpleValue b t) = if is_compatible s t then simple_comparison at relation a b s
    else unlike at relation s
compared at relation (SimpleValue a s) (SetValue b t) = if is_in relation then provided
    (may_be_member s t) WrongType at.first (truth (Tree.In a b)) else unlike at relation s
compared at relation (SetValue a s) (SetValue b t) = together at relation s (is_compatible s t) (of_sets relation)
    (λ c. Tree.CompareSets c a b)
compared at relation (StructureValue a s) (StructureValue b t) = together at relation s
    (are_same (string_length s) (string_length t)) (ordered relation) (λ c. Tree.CompareStrings c a b)
compared at relation v w = unlike at relation (type_of_value v)
