-- A type's bytes are those of its shape's words.
use Rattle.std.proofs.Common.{◌≡◌, ℕ, ◌-◌, ◌*◌, ◌/◌, ◌^◌, ◌≤◌, min, Bool, true, false, ◌&&◌, if◌then◌else◌, refl, ap}
use Rattle.std.proofs.Common.{◌∙◌, arith}
use Rattle.std.proofs.Math.Nat.{mul_left_comm}
use Rattle.ps_tree.specs.Types.{DataType, OrdinalType, PointerType, NilType, SetType, EmptySetType, TextType}
use Rattle.ps_tree.specs.Types.{ArrayType, RecordType, field_list, DataTypes, no_type, type_before}
use Rattle.ps_tree.specs.Sizes.{bytes, record_bytes, field_bytes, whole_words, value_count, fits_byte}
use Rattle.ps_lower_layout.specs.Shapes.{Shape, ByteShape, ArrayShape, shape_of, shapes_of, word_count, word_counts}
use Rattle.ps_lower_layout.specs.Shapes.{first_of}
use Rattle.ps_lower.specs.declared.depth.TheConstants.{MAX_NUMBER}

times : (n w b : ℕ) → b ≡ 4 * w → n * b ≡ 4 * (n * w)
times n w b e = ap (λ m. n * m) e ∙ mul_left_comm n 4 w

of_array : (b : Bool) (n w : ℕ) (shape : Shape) (f : _) → w ≡ 4 * word_count shape
    → (if b then whole_words n else n * w) ≡ 4 * word_count (if b then ByteShape n f else ArrayShape n shape)
of_array true n w shape f e = refl
of_array false n w shape f e = times n (word_count shape) w e

mutual
  unfolding bytes record_bytes field_bytes

  pub words_in : (t : DataType) → bytes t ≡ 4 * word_count (shape_of t)
  words_in (OrdinalType o) = refl
  words_in (PointerType number) = refl
  words_in NilType = refl
  words_in (SetType denoter packing base) = refl
  words_in EmptySetType = refl
  words_in (TextType length) = refl
  words_in (ArrayType at packed index component) = of_array (packed && fits_byte component) (value_count index)
      (bytes component) (shape_of component) (first_of component) (words_in component)
  words_in (RecordType at packed (field_list names types)) = words_of_fields types

  pub words_of_fields : (ts : DataTypes) → field_bytes ts ≡ 4 * word_counts (shapes_of ts)
  words_of_fields no_type = refl
  words_of_fields (type_before type rest) = let a = words_in type in let b = words_of_fields rest in omega (arith, a, b)

pub words_of_bytes : (t : DataType) (n : ℕ) → n ≡ min (bytes t) (2 ^ 32 - 1) → 4 * word_count (shape_of t) ≤ MAX_NUMBER
    → n / 4 ≡ word_count (shape_of t)
words_of_bytes t n e h = let a = words_in t in omega (arith, a, e, h)
