-- Variables of known types have first values.
use Rattle.std.proofs.Common.{◌≡◌, ℕ, Bool, true, false, not, ◌&&◌, ◌||◌, if◌then◌else◌, pos, int_le, IsTrue, is_none}
use Rattle.std.proofs.Common.{refl}
use Rattle.std.proofs.lemmas.Bool.{and_from}
use Rattle.ps_tree.proofs.Booleans.{and_first as left, and_second as right}
use Rattle.ps_tree.specs.declared.types.Host.TheVariants.{Integer}
use Rattle.ps_tree.specs.declared.types.Ordinal.{Ordinal}
use Rattle.ps_tree.specs.Types.{DataType, OrdinalType, PointerType, NilType, SetType, EmptySetType, TextType}
use Rattle.ps_tree.specs.Types.{ArrayType, RecordType, field_list, DataTypes, no_type, type_before, is_same_host}
use Rattle.ps_tree.specs.Sizes.{fits_byte, value_count}
use Rattle.ps_meaning.specs.Values.{first_ordinal}
use Rattle.tac_code.specs.Numbers.{is_integer}
use Rattle.ps_lower_layout.specs.Shapes.{ByteShape, ArrayShape, shape_of, shapes_of, first_of}
use Rattle.ps_lower_code.proofs.Gaps.{le_through}
use Rattle.ps_lower_code.specs.First.{FirstFits, FieldsFit}
use Rattle.ps_lower_accepted.proofs.Lists.{never}
use Rattle.ps_lower_accepted.proofs.Tables.{Table, OrdinalKnown, TypeKnown, TypesKnown}

-- the first value of an ordinal type: an integer, and a byte where all its values are
record FirstKnown (o : Ordinal) : Type 0 where
  number : IsTrue (is_integer (first_ordinal o))
  byte : fits_byte (OrdinalType o) ≡ true → (int_le (pos 0) (first_ordinal o) && int_le (first_ordinal o) (pos 255))
      ≡ true

first_known : (D : Table) (o : Ordinal) → OrdinalKnown D o → FirstKnown o
first_known D o k = record {
  number = whole (is_same_host o.host Integer && is_none o.subrange);
  byte = λ e. small (is_same_host o.host Integer && is_none o.subrange) e;
}
  where
    whole : (b : Bool) → IsTrue (is_integer (if b then pos 0 else o.low))
    whole true = refl
    whole false = k.low

    small : (b : Bool) → fits_byte (OrdinalType o) ≡ true
        → (int_le (pos 0) (if b then pos 0 else o.low) && int_le (if b then pos 0 else o.low) (pos 255)) ≡ true
    small true e = refl
    small false e =
        let a = int_le (pos 0) o.low in
        let b = int_le o.high (pos 255) in
        and_from a (int_le o.low (pos 255)) (left a b e) (le_through o.low o.high (pos 255) k.rises (right a b e))

or_not : (b c : Bool) → (b ≡ true → c ≡ true) → (not b || c) ≡ true
or_not true c h = h refl
or_not false c h = refl

mutual
  pub first_fits : (D : Table) (b : ℕ) (type : DataType) → TypeKnown D b type → FirstFits (shape_of type)
  first_fits D b (OrdinalType o) k = let f = first_known D o k
      in (f.number, or_not (fits_byte (OrdinalType o)) _ (λ e. f.byte e))
  first_fits D b (PointerType n) k = tt
  first_fits D b (SetType d p o) k = tt
  first_fits D b (ArrayType at packed i c) k = go (first_fits D b c k.2) (packed && fits_byte c) refl
    where
      byte_there : (c : DataType) → TypeKnown D b c → fits_byte c ≡ true
          → (int_le (pos 0) (first_of c) && int_le (first_of c) (pos 255)) ≡ true
      byte_there (OrdinalType o) h e = let f = first_known D o h in f.byte e
      byte_there (PointerType n) h e = never e
      byte_there NilType h e = never e
      byte_there (SetType d p o) h e = never e
      byte_there EmptySetType h e = never e
      byte_there (TextType n) h e = never e
      byte_there (ArrayType m q j t) h e = never e
      byte_there (RecordType m q fs) h e = never e

      go : FirstFits (shape_of c) → (t : Bool) → (packed && fits_byte c) ≡ t → FirstFits
          (if t then ByteShape (value_count i) (first_of c) else ArrayShape (value_count i) (shape_of c))
      go inner true e = byte_there c k.2 (right packed (fits_byte c) e)
      go inner false e = inner
  first_fits D b (RecordType at packed (field_list names types)) k = fields_fit D b types k.1
  first_fits D b NilType k = absurd k
  first_fits D b EmptySetType k = absurd k
  first_fits D b (TextType n) k = absurd k

  pub fields_fit : (D : Table) (b : ℕ) (types : DataTypes) → TypesKnown D b types → FieldsFit (shapes_of types)
  fields_fit D b no_type k = tt
  fields_fit D b (type_before type rest) k = (first_fits D b type k.0, fields_fit D b rest k.1)
