-- What the variables of a type are in memory: types without their denoters and names.
use Rattle.std.specs.Prelude.{ℕ, zero, suc, ◌+◌, ◌*◌, ◌/◌, ℤ, pos, Bool, ◌&&◌, if◌then◌else◌, Option, Some, None}
use Rattle.ps_tree.specs.Types.{DataType, OrdinalType, PointerType, NilType, SetType, EmptySetType, TextType}
use Rattle.ps_tree.specs.Types.{ArrayType, RecordType, FieldList, field_list, DataTypes, no_type, type_before}
use Rattle.ps_tree.specs.Sizes.{value_count, fits_byte}
use Rattle.ps_meaning.specs.Values.{first_ordinal}

-- An ordinal, with its first value and whether its values are bytes; a pointer, with the number of its type; a set; a
-- packed array whose components are bytes, as a string's are; another array; a record.
mutual
  pub data Shape : Type 0 where
    NumberShape : (first : ℤ) (narrow : Bool) → Shape
    PointerShape : (pointer : ℕ) → Shape
    SetShape : Shape
    ByteShape : (count : ℕ) (first : ℤ) → Shape
    ArrayShape : (count : ℕ) → Shape → Shape
    RecordShape : Shapes → Shape

  pub data Shapes : Type 0 where
    no_shape : Shapes
    shape_before : Shape → Shapes → Shapes

-- the first value of an ordinal type
abbrev pub first_of : DataType → ℤ
first_of (OrdinalType o) = first_ordinal o
first_of _ = pos 0

abbrev mutual
  pub shape_of : DataType → Shape
  shape_of (OrdinalType o) = NumberShape (first_ordinal o) (fits_byte (OrdinalType o))
  shape_of (PointerType number) = PointerShape number
  shape_of NilType = PointerShape 0
  shape_of (SetType denoter packing base) = SetShape
  shape_of EmptySetType = SetShape
  shape_of (TextType length) = ByteShape length (pos 0)
  shape_of (ArrayType at packed index component) = if packed && fits_byte component then ByteShape (value_count index)
      (first_of component) else ArrayShape (value_count index) (shape_of component)
  shape_of (RecordType at packed fields) = RecordShape (field_shapes fields)

  pub field_shapes : FieldList → Shapes
  field_shapes (field_list names types) = shapes_of types

  pub shapes_of : DataTypes → Shapes
  shapes_of no_type = no_shape
  shapes_of (type_before type rest) = shape_before (shape_of type) (shapes_of rest)

-- the words of a shape: a set has a bit for each of 0..255, bytes are padded to whole words
abbrev mutual
  pub word_count : Shape → ℕ
  word_count (NumberShape first narrow) = 1
  word_count (PointerShape pointer) = 1
  word_count SetShape = 8
  word_count (ByteShape count first) = (count + 3) / 4
  word_count (ArrayShape count shape) = count * word_count shape
  word_count (RecordShape shapes) = word_counts shapes

  pub word_counts : Shapes → ℕ
  word_counts no_shape = 0
  word_counts (shape_before shape rest) = word_count shape + word_counts rest

abbrev pub byte_count : Shape → ℕ
byte_count shape = 4 * word_count shape

-- the shape of a field, and the words before it
abbrev pub field_shape : Shapes → ℕ → Option Shape
field_shape no_shape k = None
field_shape (shape_before shape rest) zero = Some shape
field_shape (shape_before shape rest) (suc k) = field_shape rest k

abbrev pub words_before : Shapes → ℕ → ℕ
words_before no_shape k = 0
words_before (shape_before shape rest) zero = 0
words_before (shape_before shape rest) (suc k) = word_count shape + words_before rest k

-- the size of an array's components, in bytes
abbrev pub component_bytes : Shape → ℕ
component_bytes (ByteShape count first) = 1
component_bytes (ArrayShape count shape) = byte_count shape
component_bytes _ = 0

-- where a field of a record begins, in bytes
abbrev pub field_offset : Shape → ℕ → ℕ
field_offset (RecordShape shapes) k = 4 * words_before shapes k
field_offset _ k = 0

-- a part of a variable: a stretch of whole words, or one byte
pub data Part : Type 0 where
  Whole : Shape → Part
  Byte : Part

-- a component of an array and a field of a record
abbrev pub component_part : Shape → Part
component_part (ByteShape count first) = Byte
component_part (ArrayShape count shape) = Whole shape
component_part shape = Whole shape

abbrev pub field_part : Shape → ℕ → Option Shape
field_part (RecordShape shapes) k = field_shape shapes k
field_part _ k = None
