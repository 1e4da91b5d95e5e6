-- Values (6.4), the first values of variables, and spots, which variables denote (6.5).
use Rattle.std.specs.Prelude.{ℕ, zero, suc, ℤ, pos, Bool, false, ◌&&◌, is_none, if◌then◌else◌, List, [], ◌∷◌, ◌++◌}
use Rattle.ps_tree.specs.declared.types.Host.TheVariants.{Integer}
use Rattle.ps_tree.specs.declared.types.Ordinal.{Ordinal}
use Rattle.ps_tree.specs.Types.{DataType, OrdinalType, PointerType, NilType, SetType, EmptySetType, TextType}
use Rattle.ps_tree.specs.Types.{ArrayType, RecordType, FieldList, field_list, DataTypes, no_type, type_before}
use Rattle.ps_tree.specs.Types.{is_same_host}
use Rattle.ps_tree.specs.Sizes.{value_count}

-- A whole number for a value of an ordinal type; for a pointer nil or the object that it points to; for a set the
-- membership test of its members, which are in 0..255; for an array or a record the values of its components, in the
-- order of the indices or fields.
mutual
  pub data Value : Type 0 where
    OrdinalValue : ℤ → Value
    NilValue : Value
    ObjectValue : (object : ℕ) → Value
    SetValue : (ℕ → Bool) → Value
    StructureValue : Values → Value

  pub data Values : Type 0 where
    no_value : Values
    value_before : Value → Values → Values

-- what a value is, if its type is known
abbrev pub number_of : Value → ℤ
number_of (OrdinalValue n) = n
number_of _ = pos 0

abbrev pub no_member_of : ℕ → Bool
no_member_of k = false

abbrev pub set_of : Value → ℕ → Bool
set_of (SetValue s) = s
set_of _ = no_member_of

abbrev pub components_of : Value → Values
components_of (StructureValue vs) = vs
components_of _ = no_value

abbrev pub copies : ℕ → Value → Values
copies zero v = no_value
copies (suc n) v = value_before v (copies n v)

-- the first value of a variable: integer 0, a subrange its lowest value, other ordinals their first; pointers nil, sets
-- empty, structures component by component
abbrev pub first_ordinal : Ordinal → ℤ
first_ordinal o = if is_same_host o.host Integer && is_none o.subrange then pos 0 else o.low

abbrev mutual
  pub first : DataType → Value
  first (OrdinalType o) = OrdinalValue (first_ordinal o)
  first (PointerType number) = NilValue
  first NilType = NilValue
  first (SetType denoter packing base) = SetValue no_member_of
  first EmptySetType = SetValue no_member_of
  first (TextType length) = StructureValue (copies length (OrdinalValue (pos 0)))
  first (ArrayType at packed index component) = StructureValue (copies (value_count index) (first component))
  first (RecordType at packed fields) = StructureValue (first_fields fields)

  pub first_fields : FieldList → Values
  first_fields (field_list names types) = first_of_each types

  pub first_of_each : DataTypes → Values
  first_of_each no_type = no_value
  first_of_each (type_before type rest) = value_before (first type) (first_of_each rest)

-- the value of a string
abbrev pub text_values : List ℕ → Values
text_values [] = no_value
text_values (b ∷ rest) = value_before (OrdinalValue (pos b)) (text_values rest)

abbrev pub nth : Values → ℕ → Value
nth no_value k = OrdinalValue (pos 0)
nth (value_before v rest) zero = v
nth (value_before v rest) (suc k) = nth rest k

abbrev pub with_nth : Values → ℕ → Value → Values
with_nth no_value k new = no_value
with_nth (value_before v rest) zero new = value_before new rest
with_nth (value_before v rest) (suc k) new = value_before v (with_nth rest k new)

abbrev pub component : Value → ℕ → Value
component v k = nth (components_of v) k

abbrev pub with_component : Value → ℕ → Value → Value
with_component (StructureValue vs) k new = StructureValue (with_nth vs k new)
with_component v k new = v

-- the components from k on, and the first n of them
abbrev pub values_from : Values → ℕ → Values
values_from vs zero = vs
values_from no_value (suc k) = no_value
values_from (value_before v rest) (suc k) = values_from rest k

abbrev pub first_values : ℕ → Values → Values
first_values zero vs = no_value
first_values (suc n) no_value = no_value
first_values (suc n) (value_before v rest) = value_before v (first_values n rest)

-- the components, with those from k on replaced
abbrev pub with_values : Values → ℕ → Values → Values
with_values olds k no_value = olds
with_values olds k (value_before v rest) = with_values (with_nth olds k v) (suc k) rest

-- A variable is one that was declared, under a name never used before, or an object that `new` made. A spot is such a
-- variable, or the part of it at the end of a path of component numbers, outermost first.
pub data Root : Type 0 where
  Declared : (name : ℕ) → Root
  Made : (object : ℕ) → Root

pub record Spot : Type 0 where
  pub root : Root
  pub path : List ℕ

abbrev pub entire : Root → Spot
entire root = record { root = root; path = [] }

abbrev pub step : Spot → ℕ → Spot
step s k = record { root = s.root; path = s.path ++ k ∷ [] }

abbrev pub part : Value → List ℕ → Value
part v [] = v
part v (k ∷ path) = part (component v k) path

abbrev pub with_part : Value → List ℕ → Value → Value
with_part v [] new = new
with_part v (k ∷ path) new = with_component v k (with_part (component v k) path new)
