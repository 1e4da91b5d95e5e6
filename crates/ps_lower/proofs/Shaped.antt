-- The sizes of types, from their shapes.
use Rattle.std.proofs.Common.{◌≡◌, ℕ, zero, suc, ◌-◌, ◌*◌, ◌^◌, ◌≤◌, min, refl, arith}
use Rattle.ps_tree.specs.Types.{DataType, DataTypes, no_type, type_before, FieldList, field_list, field_types}
use Rattle.ps_tree.specs.Sizes.{bytes, bytes_before}
use Rattle.ps_lower_layout.specs.Shapes.{shape_of, shapes_of, field_shapes, byte_count, words_before}
use Rattle.ps_lower.specs.declared.depth.TheConstants.{MAX_NUMBER}
use Rattle.ps_lower.proofs.Sizes.{words_in}

pub bytes_told : (t : DataType) (n : ℕ) → n ≡ min (bytes t) (2 ^ 32 - 1) → byte_count (shape_of t) ≤ MAX_NUMBER → n
    ≡ byte_count (shape_of t)
bytes_told t n e h = let a = words_in t in omega (arith, a, e, h)

pub fields_told : (f : FieldList) → shapes_of (field_types f) ≡ field_shapes f
fields_told (field_list names types) = refl

-- where a field begins, in bytes
pub before_told : (types : DataTypes) (k : ℕ) → bytes_before types k ≡ 4 * words_before (shapes_of types) k
before_told no_type k = refl
before_told (type_before type rest) zero = refl
before_told (type_before type rest) (suc k) = let a = words_in type in let b = before_told rest k in omega (arith, a, b)

pub offset_told : (f : FieldList) (k n : ℕ) → n ≡ min (bytes_before (field_types f) k) (2 ^ 32 - 1) → 4 * words_before
    (field_shapes f) k ≤ MAX_NUMBER → n ≡ 4 * words_before (field_shapes f) k
offset_told (field_list names types) k n e h = let a = before_told types k in omega (arith, a, e, h)
