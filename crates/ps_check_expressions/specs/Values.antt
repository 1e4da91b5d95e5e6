-- What variables and expressions denote: the checked tree, and the type.
use Rattle.std.specs.Prelude.{ℕ, pos, Bool, false, List, [], ◌∷◌, Option, None}
use Rattle.ps_text.specs.declared.Span.{Span}
use Rattle.ps_tree.specs.declared.types.Host.{Host}
use Rattle.ps_tree.specs.declared.types.Host.TheVariants.{Integer, Char, Boolean, Enumeration}
use Rattle.ps_tree.specs.declared.types.Ordinal.{Ordinal}
use Rattle.ps_tree.specs.declared.types.Packing.{Packing}
use Rattle.ps_tree.specs.declared.types.Packing.TheVariants.{Either}
use Rattle.ps_tree.specs.declared.tree.operators.Range.{Range}
use Rattle.ps_tree.specs.declared.tree.operators.Range.TheVariants.{Any, Within}
use Rattle.ps_tree.specs.Types.{DataType, OrdinalType, PointerType, SetType, EmptySetType, ArrayType, RecordType}
use Rattle.ps_tree.specs.Types.{is_same_host}
use Rattle.ps_tree.specs.Tree as Tree
use Rattle.ps_check_judgement.specs.declared.refusal.Rule.TheVariants.{WrongKind, WrongType}
use Rattle.ps_check_judgement.specs.Judged.{Judged, Yes, No}
use Rattle.ps_check_judgement.specs.Changing.{Changing, still}
use Rattle.ps_check_names.specs.Constants.{integer, char, boolean}

-- An expression is of one of three kinds according to its values: ordinals and pointers, sets, and arrays, records and
-- strings.
pub data Value : Type 0 where
  SimpleValue : Tree.Expr → DataType → Value
  SetValue : Tree.SetExpr → DataType → Value
  StructureValue : Tree.Structure → DataType → Value

-- A variable, and whether it ends in an index or a field of a packed variable (6.6.3.3).
pub record Variable : Type 0 where
  pub place : Tree.Place
  pub type : DataType
  pub in_packed : Bool

-- The view of an expression: where it begins, its value, the variable that it is, if it is one alone, and the name, if
-- it is one alone.
pub record Operand : Type 0 where
  pub first : ℕ
  pub value : Changing Value
  pub variable : Changing Variable
  pub name : Option Span

-- an expression that is neither a variable nor a name
abbrev pub plain : ℕ → Changing Value → Operand
plain first value = record { first = first; value = value; variable = still (No WrongKind first); name = None }

-- 6.7.1: an operand of a subrange type counts as of its host type
abbrev pub host_type : Host → Ordinal
host_type Integer = integer
host_type Char = char
host_type Boolean = boolean
host_type (Enumeration at greatest) =
    record { host = Enumeration at greatest; subrange = None; low = pos 0; high = greatest }

-- ---- the kinds of types

abbrev pub has_host : Host → DataType → Bool
has_host host (OrdinalType o) = is_same_host o.host host
has_host host _ = false

abbrev pub is_integer : DataType → Bool
is_integer type = has_host Integer type

abbrev pub is_boolean : DataType → Bool
is_boolean type = has_host Boolean type

abbrev pub is_packed : DataType → Bool
is_packed (ArrayType at packed index component) = packed
is_packed (RecordType at packed fields) = packed
is_packed _ = false

-- the values that a variable of a simple type takes
abbrev pub range_of : DataType → Range
range_of (OrdinalType o) = Within o.low o.high
range_of _ = Any

-- an expression of an ordinal type
unfoldable pub ordinal_of : (at : ℕ) → Value → Judged (Tree.Expr × Ordinal)
ordinal_of at (SimpleValue e (OrdinalType o)) = Yes (e, o)
ordinal_of at _ = No WrongType at

-- ---- sets (6.7.2.4)

-- two sets are taken together: if one is packed or not, that decides
abbrev pub packing_of_both : Packing → Packing → Packing
packing_of_both Either l = l
packing_of_both k l = k

-- the type of an operation on two sets
abbrev pub set_type_of_both : DataType → DataType → DataType
set_type_of_both (SetType a k o) (SetType b l p) = SetType None (packing_of_both k l) o
set_type_of_both (SetType a k o) _ = SetType None k o
set_type_of_both _ (SetType b l p) = SetType None l p
set_type_of_both _ _ = EmptySetType

-- ---- the contents of a variable, which begins at `at`
unfoldable pub contents : (at : ℕ) → Tree.Place → DataType → Judged Value
contents at place (OrdinalType o) = Yes (SimpleValue (Tree.Load place) (OrdinalType o))
contents at place (PointerType n) = Yes (SimpleValue (Tree.Load place) (PointerType n))
contents at place (SetType a k o) = Yes (SetValue (Tree.LoadSet place) (SetType a k o))
contents at place (ArrayType a packed index component) =
    Yes (StructureValue (Tree.Contents place (ArrayType a packed index component)) (ArrayType a packed index component))
contents at place (RecordType a packed fields) =
    Yes (StructureValue (Tree.Contents place (RecordType a packed fields)) (RecordType a packed fields))
contents at place _ = No WrongType at

abbrev pub loaded : (at : ℕ) → Variable → Judged Value
loaded at v = contents at v.place v.type

-- the type of a value
abbrev pub type_of_value : Value → DataType
type_of_value (SimpleValue e type) = type
type_of_value (SetValue e type) = type
type_of_value (StructureValue e type) = type

-- ---- lists of the checked tree

abbrev pub argument_list : List Tree.Argument → Tree.Arguments
argument_list [] = Tree.no_argument
argument_list (a ∷ rest) = Tree.argument_before a (argument_list rest)

abbrev pub member_list : List Tree.Member → Tree.Members
member_list [] = Tree.no_member
member_list (m ∷ rest) = Tree.member_before m (member_list rest)
