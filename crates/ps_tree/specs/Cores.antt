-- The part of a type that holds its variables' bytes: if only one component or one field takes any, it is that one, and
-- so on. A record type and an array type store it, so that no walk goes through everything that takes none.
use Rattle.std.specs.Prelude.{Bool, ◌&&◌, not, ◌==◌, nat_lt, if◌then◌else◌}
use Rattle.ps_tree.specs.declared.types.Ordinal.{Ordinal}
use Rattle.ps_tree.specs.Types.{DataType, OrdinalType, PointerType, NilType, SetType, EmptySetType, TextType}
use Rattle.ps_tree.specs.Types.{ArrayType, RecordType, field_list, DataTypes, no_type, type_before}
use Rattle.ps_tree.specs.Sizes.{value_count, fits_byte, bytes}

-- an array of one component, which takes whole words
abbrev pub is_single : (packed : Bool) → Ordinal → DataType → Bool
is_single packed index component = value_count index == 1 && not (packed && fits_byte component)
    && nat_lt 0 (bytes component)

-- the type, if these are just one, and otherwise this other
abbrev pub sole : DataTypes → (other : DataType) → DataType
sole no_type other = other
sole (type_before type no_type) other = type
sole (type_before type (type_before next rest)) other = other

-- The core of an array of one component is its component's, and that of a record with one field that takes bytes is
-- that field's. Any other type is its own.
unfoldable mutual
  pub core_of : DataType → DataType
  core_of (OrdinalType o) = OrdinalType o
  core_of (PointerType number) = PointerType number
  core_of NilType = NilType
  core_of (SetType denoter packing base) = SetType denoter packing base
  core_of EmptySetType = EmptySetType
  core_of (TextType length) = TextType length
  core_of (ArrayType at packed index component) = if is_single packed index component then core_of component else
      (ArrayType at packed index component)
  core_of (RecordType at packed (field_list names types)) = sole (cores_of types)
      (RecordType at packed (field_list names types))

  -- those of the types that take bytes
  pub cores_of : DataTypes → DataTypes
  cores_of no_type = no_type
  cores_of (type_before type rest) = if nat_lt 0 (bytes type) then (type_before (core_of type) (cores_of rest))
      else cores_of rest
