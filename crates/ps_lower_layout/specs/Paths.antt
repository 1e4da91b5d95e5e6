-- Where the parts of a variable are in its words, and which values a variable of a shape can have.
use Rattle.std.specs.Prelude.{◌≡◌, ℕ, zero, suc, ◌+◌, ◌*◌, ◌<◌, pos, IsTrue, not, ◌||◌, List, [], ◌∷◌, slice_get, Some}
use Rattle.tac_code.specs.Numbers.{is_integer}
use Rattle.ps_meaning.specs.Values.{Value, NilValue, ObjectValue, StructureValue, Values, no_value, value_before}
use Rattle.ps_meaning.specs.Values.{number_of}
use Rattle.ps_meaning.specs.Operators.{is_between}
use Rattle.ps_lower_layout.specs.Shapes.{Shape, NumberShape, PointerShape, SetShape, ByteShape, ArrayShape}
use Rattle.ps_lower_layout.specs.Shapes.{RecordShape, Shapes, no_shape, shape_before, byte_count, field_shape}
use Rattle.ps_lower_layout.specs.Shapes.{words_before, Part, Whole, Byte}

-- A path leads through a variable of a shape to a part j bytes from its beginning. Below a byte there is nothing.
abbrev pub PathIn : List ℕ → Shape → Part → ℕ → Type 0
PathIn [] shape part j = (part ≡ Whole shape) × (j ≡ 0)
PathIn (k ∷ path) (ArrayShape count shape) part j = (k < count)
    × ((i : ℕ) × PathIn path shape part i × (j ≡ k * byte_count shape + i))
PathIn (k ∷ path) (RecordShape shapes) part j = (shape : Shape) × (field_shape shapes k ≡ Some shape)
    × ((i : ℕ) × PathIn path shape part i × (j ≡ 4 * words_before shapes k + i))
PathIn (k ∷ []) (ByteShape count first) part j = (k < count) × (part ≡ Byte) × (j ≡ k)
PathIn (k ∷ l ∷ path) (ByteShape count first) part j = ⊥
PathIn (k ∷ path) _ part j = ⊥

-- nil, or an object of this pointer type
abbrev pub PointsTo : (made : List ℕ) → Value → (pointer : ℕ) → Type 0
PointsTo made NilValue t = Unit {0}
PointsTo made (ObjectValue k) t = slice_get made k ≡ Some t
PointsTo made _ t = ⊥

-- n bytes
abbrev pub AreByteValues : ℕ → Values → Type 0
AreByteValues zero no_value = Unit {0}
AreByteValues zero (value_before v vs) = ⊥
AreByteValues (suc n) no_value = ⊥
AreByteValues (suc n) (value_before v vs) = IsTrue (is_between (pos 0) (number_of v) (pos 255)) × AreByteValues n vs

-- a component of an array is a byte if its type's values are bytes
abbrev pub KeepsByte : Value → Shape → Type 0
KeepsByte v (NumberShape first narrow) = IsTrue (not narrow || is_between (pos 0) (number_of v) (pos 255))
KeepsByte v shape = Unit {0}

-- An ordinal is any integer, whatever the bounds of its type, since a `for` statement steps it: only components of
-- arrays are always bytes.
abbrev mutual
  pub HasShape : (made : List ℕ) → Value → Shape → Type 0
  HasShape made v (NumberShape first narrow) = IsTrue (is_integer (number_of v))
  HasShape made v (PointerShape pointer) = PointsTo made v pointer
  HasShape made v SetShape = Unit {0}
  HasShape made (StructureValue vs) (ByteShape count first) = AreByteValues count vs
  HasShape made (StructureValue vs) (ArrayShape count shape) = HaveShape made vs count shape
  HasShape made (StructureValue vs) (RecordShape shapes) = HaveShapes made vs shapes
  HasShape made _ _ = ⊥

  pub HaveShape : List ℕ → Values → ℕ → Shape → Type 0
  HaveShape made no_value zero shape = Unit {0}
  HaveShape made no_value (suc n) shape = ⊥
  HaveShape made (value_before v vs) zero shape = ⊥
  HaveShape made (value_before v vs) (suc n) shape = HasShape made v shape × KeepsByte v shape
      × HaveShape made vs n shape

  pub HaveShapes : List ℕ → Values → Shapes → Type 0
  HaveShapes made no_value no_shape = Unit {0}
  HaveShapes made no_value (shape_before shape rest) = ⊥
  HaveShapes made (value_before v vs) no_shape = ⊥
  HaveShapes made (value_before v vs) (shape_before shape rest) = HasShape made v shape × HaveShapes made vs rest

-- what can be stored where a path leads in a variable
abbrev pub KeepsAt : List ℕ → Value → Shape → Type 0
KeepsAt [] v shape = Unit {0}
KeepsAt (k ∷ path) v shape = KeepsByte v shape

abbrev pub GoesTo : (made : List ℕ) → (path : List ℕ) → Value → Shape → Type 0
GoesTo made path v shape = HasShape made v shape × KeepsAt path v shape

-- the value of an expression of an ordinal or pointer type
pub data Sort : Type 0 where
  NumberSort : Sort
  PointerSort : (pointer : ℕ) → Sort

abbrev pub HasSort : (made : List ℕ) → Value → Sort → Type 0
HasSort made v NumberSort = IsTrue (is_integer (number_of v))
HasSort made v (PointerSort pointer) = PointsTo made v pointer
