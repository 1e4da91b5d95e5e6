-- Known numbers, operators, and expressions as conditions.
use Rattle.std.specs.Prelude.{ℕ, suc, ℤ, pos, ◌-ℤ◌, Bool, true, false, not, ◌&&◌, if◌then◌else◌, List, [], ◌∷◌, Option}
use Rattle.std.specs.Prelude.{Some, None}
use Rattle.ps_tree.specs.declared.tree.operators.ArithmeticOperator.{ArithmeticOperator}
use Rattle.ps_tree.specs.declared.tree.operators.ArithmeticOperator.TheVariants.{Add, Subtract, Multiply, Div, Mod}
use Rattle.ps_tree.specs.declared.tree.operators.BooleanOperator.{BooleanOperator}
use Rattle.ps_tree.specs.declared.tree.operators.BooleanOperator.TheVariants.{And, Or}
use Rattle.ps_tree.specs.declared.tree.operators.SetOperator.{SetOperator}
use Rattle.ps_tree.specs.declared.tree.operators.SetOperator.TheVariants.{Union, Difference, Intersection}
use Rattle.ps_tree.specs.declared.tree.operators.OrderRelation.{OrderRelation}
use Rattle.ps_tree.specs.declared.tree.operators.OrderRelation.TheVariants as asked
use Rattle.ps_tree.specs.declared.tree.operators.PointerRelation.{PointerRelation}
use Rattle.ps_tree.specs.declared.tree.operators.PointerRelation.TheVariants.{Same, Other}
use Rattle.ps_tree.specs.declared.tree.operators.RequiredFunction.TheVariants.{Odd}
use Rattle.ps_tree.specs.Tree.{Expr, Number, Nil, Minus, Not, Logic, Compare, ComparePointers, CompareSets}
use Rattle.ps_tree.specs.Tree.{CompareStrings, In, Apply, Eof, Eoln}
use Rattle.ps_meaning.specs.Operators.{is_between}
use Rattle.tac_code.specs.declared.code.Operand.{Operand}
use Rattle.tac_code.specs.declared.code.Operand.TheVariants as operand
use Rattle.tac_code.specs.declared.code.Operator.{Operator}
use Rattle.tac_code.specs.declared.code.Operator.TheVariants as operator
use Rattle.tac_code.specs.declared.code.BitOperator.{BitOperator}
use Rattle.tac_code.specs.declared.code.BitOperator.TheVariants as bits
use Rattle.tac_code.specs.declared.code.Relation.{Relation}
use Rattle.tac_code.specs.declared.code.Relation.TheVariants.{Equal, NotEqual, Less, LessEqual, Greater, GreaterEqual}
use Rattle.tac_code.specs.declared.code.Instruction.{Instruction}
use Rattle.tac_code.specs.declared.code.Instruction.TheVariants as i
use Rattle.tac_rt.specs.declared.run_time.RunTime.{RunTime}
use Rattle.tac_rt.specs.declared.run_time.RunTime.TheVariants.{UniteSets, SubtractSet, IntersectSets}
use Rattle.ps_lower_code.specs.Scopes.{even_from, kept, least, greatest, operand_of}
use Rattle.ps_lower_code.specs.Calling.{expr_calls}

-- ---- known numbers

abbrev pub negated : Expr → Option ℤ
negated (Number n) = if is_between least (pos 0 -ℤ n) greatest then Some (pos 0 -ℤ n) else None
negated _ = None

abbrev pub literal_of : Expr → Option ℤ
literal_of (Number n) = Some n
literal_of Nil = Some (pos 0)
literal_of (Minus e line) = negated e
literal_of _ = None

-- ---- operators

abbrev pub operator_of : ArithmeticOperator → Operator
operator_of Add = operator.Add
operator_of Subtract = operator.Subtract
operator_of Multiply = operator.Multiply
operator_of Div = operator.Divide
operator_of Mod = operator.Modulo

abbrev pub bit_operator_of : BooleanOperator → BitOperator
bit_operator_of And = bits.And
bit_operator_of Or = bits.Or

abbrev pub relation_of : OrderRelation → Relation
relation_of asked.Equal = Equal
relation_of asked.Different = NotEqual
relation_of asked.Less = Less
relation_of asked.Greater = Greater
relation_of asked.AtMost = LessEqual
relation_of asked.AtLeast = GreaterEqual

abbrev pub pointer_relation_of : PointerRelation → Relation
pointer_relation_of Same = Equal
pointer_relation_of Other = NotEqual

abbrev pub opposite : Relation → Relation
opposite Equal = NotEqual
opposite NotEqual = Equal
opposite Less = GreaterEqual
opposite LessEqual = Greater
opposite Greater = LessEqual
opposite GreaterEqual = Less

abbrev pub set_routine : SetOperator → RunTime
set_routine Union = UniteSets
set_routine Difference = SubtractSet
set_routine Intersection = IntersectSets

-- ---- expressions as conditions
-- The front code of an expression leaves a relation between a temporary and a right operand, which is the expression's
-- truth value. If the expression is not a relation, it leaves the expression's word in d, and the relation is that this
-- is not 0.

abbrev pub is_relation : Expr → Bool
is_relation (Compare relation a b) = true
is_relation (ComparePointers relation a b) = true
is_relation (CompareStrings relation a b) = true
is_relation (Not e) = true
is_relation Eof = true
is_relation (Eoln line) = true
is_relation _ = false

-- the word of such an expression is 0 or 1
abbrev pub is_truth : Expr → Bool
is_truth (Logic operator e rest) = true
is_truth (CompareSets relation a b) = true
is_truth (In a b) = true
is_truth (Apply Odd e line) = true
is_truth e = is_relation e

abbrev pub relation_in : Expr → Relation
relation_in (Compare relation a b) = relation_of relation
relation_in (ComparePointers relation a b) = pointer_relation_of relation
relation_in (CompareStrings relation a b) = relation_of relation
relation_in (Not e) = opposite (relation_in e)
relation_in Eof = Equal
relation_in (Eoln line) = Equal
relation_in _ = NotEqual

abbrev pub left_in : Expr → (d : ℕ) → ℕ
left_in (Compare relation a b) d = kept (expr_calls b) d
left_in (ComparePointers relation a b) d = kept (expr_calls b) d
left_in (Not e) d = left_in e d
left_in _ d = d

abbrev pub right_in : Expr → (d : ℕ) → Operand
right_in (Compare relation a b) d = operand_of (literal_of b) (even_from (suc (kept (expr_calls b) d)))
right_in (ComparePointers relation a b) d = operand_of (literal_of b) (even_from (suc (kept (expr_calls b) d)))
right_in (Not e) d = right_in e d
right_in (Eoln line) d = operand.Number (pos 1)
right_in _ d = operand.Number (pos 0)

-- from the relation to its truth as a word in d
abbrev pub relation_code : Expr → (d : ℕ) → List Instruction
relation_code e d = i.Compare (relation_in e) d (left_in e d) (right_in e d) ∷ []

-- what the front code needs after it for the expression's word in d, and for its truth as 0 or 1
abbrev pub finish : Expr → (d : ℕ) → List Instruction
finish e d = if is_relation e then relation_code e d else []

abbrev pub truth_finish : Expr → (d : ℕ) → List Instruction
truth_finish e d = if is_truth e && not (is_relation e) then [] else relation_code e d
