-- The size of a type's variables, in cells and in bytes (this project's format).
use Rattle.std.specs.Prelude.{ℕ, zero, suc, max, min, ◌+◌, ◌*◌, ◌/◌, pos, ◌-ℤ◌, unsigned_abs, int_lt, int_le, Bool}
use Rattle.std.specs.Prelude.{false, ◌&&◌, if◌then◌else◌, List, [], ◌∷◌}
use Rattle.ps_tree.specs.declared.types.Ordinal.{Ordinal}
use Rattle.ps_tree.specs.Types.{DataType, OrdinalType, PointerType, NilType, SetType, EmptySetType, TextType}
use Rattle.ps_tree.specs.Types.{ArrayType, RecordType, FieldList, field_list, DataTypes, no_type, type_before}

-- the number of values of an ordinal type
abbrev pub value_count : Ordinal → ℕ
value_count o = if int_lt o.high o.low then 0 else unsigned_abs (o.high -ℤ o.low) + 1

-- An ordinal or a pointer has one cell, a set eight, an array its length times its component's cells, a record the sum
-- over its fields, or one cell if it has none.
unfoldable mutual
  pub cells : DataType → ℕ
  cells (OrdinalType o) = 1
  cells (PointerType number) = 1
  cells NilType = 1
  cells (SetType denoter packing base) = 8
  cells EmptySetType = 8
  cells (TextType length) = length
  cells (ArrayType at packed index component) = value_count index * cells component
  cells (RecordType at packed fields) = record_cells fields

  pub record_cells : FieldList → ℕ
  record_cells (field_list names no_type) = 1
  record_cells (field_list names (type_before type rest)) = cells type + field_cells rest

  pub field_cells : DataTypes → ℕ
  field_cells no_type = 0
  field_cells (type_before type rest) = cells type + field_cells rest

-- all values are in 0..255
abbrev pub fits_byte : DataType → Bool
fits_byte (OrdinalType o) = int_le (pos 0) o.low && int_le o.high (pos 255)
fits_byte _ = false

-- the next multiple of four
abbrev pub whole_words : ℕ → ℕ
whole_words n = 4 * ((n + 3) / 4)

-- An ordinal or a pointer takes four bytes, a set 32. A packed array of components that fit a byte takes one for each,
-- padded to whole words.
unfoldable mutual
  pub bytes : DataType → ℕ
  bytes (OrdinalType o) = 4
  bytes (PointerType number) = 4
  bytes NilType = 4
  bytes (SetType denoter packing base) = 32
  bytes EmptySetType = 32
  bytes (TextType length) = whole_words length
  bytes (ArrayType at packed index component) = if packed && fits_byte component then whole_words (value_count index)
      else value_count index * bytes component
  bytes (RecordType at packed fields) = record_bytes fields

  pub record_bytes : FieldList → ℕ
  record_bytes (field_list names types) = field_bytes types

  pub field_bytes : DataTypes → ℕ
  field_bytes no_type = 0
  field_bytes (type_before type rest) = bytes type + field_bytes rest

-- where field k of a record begins, counted from 0; past the last, where the record ends
abbrev pub bytes_before : DataTypes → ℕ → ℕ
bytes_before no_type k = 0
bytes_before (type_before type rest) zero = 0
bytes_before (type_before type rest) (suc k) = bytes type + bytes_before rest k

-- where each of these fields begins, if the first begins at n, up to m. No contract mentions it: a record type stores
-- it.
abbrev pub beginnings : (m n : ℕ) → DataTypes → List ℕ
beginnings m n no_type = []
beginnings m n (type_before type rest) = n ∷ beginnings m (min (n + bytes type) m) rest

-- how deep the records and arrays in a type are nested
unfoldable mutual
  pub depth : DataType → ℕ
  depth (OrdinalType o) = 0
  depth (PointerType number) = 0
  depth NilType = 0
  depth (SetType denoter packing base) = 0
  depth EmptySetType = 0
  depth (TextType length) = 0
  depth (ArrayType at packed index component) = suc (depth component)
  depth (RecordType at packed fields) = suc (depth_of_fields fields)

  pub depth_of_fields : FieldList → ℕ
  depth_of_fields (field_list names types) = greatest_depth types

  pub greatest_depth : DataTypes → ℕ
  greatest_depth no_type = 0
  greatest_depth (type_before type rest) = max (depth type) (greatest_depth rest)
