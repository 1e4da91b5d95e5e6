-- Which type each denoter makes: a denoter is read once, so its offset determines its type.
use Rattle.std.proofs.Common.{◌≡◌, ℕ, ◌<◌, ◌≤◌, ℤ, pos, Option, Some, None, IsTrue, int_le, arith}
use Rattle.ps_tree.specs.declared.types.Host.{Host}
use Rattle.ps_tree.specs.declared.types.Host.TheVariants.{Integer, Char, Boolean, Enumeration}
use Rattle.ps_tree.specs.declared.types.Ordinal.{Ordinal}
use Rattle.ps_tree.specs.Types.{DataType, OrdinalType, PointerType, NilType, SetType, EmptySetType, TextType}
use Rattle.ps_tree.specs.Types.{ArrayType, RecordType, FieldList, field_list, DataTypes, no_type, type_before}
use Rattle.tac_code.specs.Numbers.{is_integer}
use Rattle.ps_check_expressions.specs.Values.{host_type}

-- what begins at each offset: an array or record type, a subrange, an enumerated type with its greatest value
pub record Table : Type 0 where
  pub structures : ℕ → Option DataType
  pub subranges : ℕ → Option Ordinal
  pub enumerations : ℕ → Option ℤ

-- a table that knows all that another knows
pub record Extends (D E : Table) : Type 0 where
  pub structures : (at : ℕ) (type : DataType) → D.structures at ≡ Some type → E.structures at ≡ Some type
  pub subranges : (at : ℕ) (o : Ordinal) → D.subranges at ≡ Some o → E.subranges at ≡ Some o
  pub enumerations : (at : ℕ) (n : ℤ) → D.enumerations at ≡ Some n → E.enumerations at ≡ Some n

-- nothing is known to begin at an offset or after it
pub record EndsBefore (low : ℕ) (D : Table) : Type 0 where
  pub structures : (at : ℕ) → low ≤ at → D.structures at ≡ None
  pub subranges : (at : ℕ) → low ≤ at → D.subranges at ≡ None
  pub enumerations : (at : ℕ) → low ≤ at → D.enumerations at ≡ None

abbrev pub HostKnown : Table → Host → Type 0
HostKnown D (Enumeration at n) = (D.enumerations at ≡ Some n) × IsTrue (is_integer n) × IsTrue (int_le (pos 0) n)
HostKnown D _ = Unit {0}

-- a type that is no subrange is its host type
abbrev pub SubrangeKnown : Table → Option ℕ → Ordinal → Type 0
SubrangeKnown D None o = o ≡ host_type o.host
SubrangeKnown D (Some at) o = D.subranges at ≡ Some o

pub record OrdinalKnown (D : Table) (o : Ordinal) : Type 0 where
  pub low : IsTrue (is_integer o.low)
  pub high : IsTrue (is_integer o.high)
  pub rises : IsTrue (int_le o.low o.high)
  pub host : HostKnown D o.host
  pub subrange : SubrangeKnown D o.subrange o

-- Variables' types: each part that has a denoter is what the denoter makes, and the numbers of pointer types are below
-- b.
abbrev mutual
  pub TypeKnown : Table → ℕ → DataType → Type 0
  TypeKnown D b (OrdinalType o) = OrdinalKnown D o
  TypeKnown D b (PointerType n) = n < b
  TypeKnown D b NilType = ⊥
  TypeKnown D b (SetType denoter packing base) = IsTrue (is_integer base.low) × IsTrue (is_integer base.high)
  TypeKnown D b EmptySetType = ⊥
  TypeKnown D b (TextType n) = ⊥
  TypeKnown D b (ArrayType at packed index component) = (D.structures at ≡ Some (ArrayType at packed index component))
      × OrdinalKnown D index × TypeKnown D b component
  TypeKnown D b (RecordType at packed fields) = (D.structures at ≡ Some (RecordType at packed fields))
      × FieldsKnown D b fields

  pub FieldsKnown : Table → ℕ → FieldList → Type 0
  FieldsKnown D b (field_list names types) = TypesKnown D b types

  pub TypesKnown : Table → ℕ → DataTypes → Type 0
  TypesKnown D b no_type = Unit {0}
  TypesKnown D b (type_before type rest) = TypeKnown D b type × TypesKnown D b rest

-- ---- more is known

pub host_more : (D E : Table) → Extends D E → (h : Host) → HostKnown D h → HostKnown E h
host_more D E x Integer k = tt
host_more D E x Char k = tt
host_more D E x Boolean k = tt
host_more D E x (Enumeration at n) k = (x.enumerations at n k.0, k.1, k.2)

subrange_more : (D E : Table) → Extends D E → (s : Option ℕ) (o : Ordinal) → SubrangeKnown D s o → SubrangeKnown E s o
subrange_more D E x None o k = k
subrange_more D E x (Some at) o k = x.subranges at o k

pub ordinal_more : (D E : Table) → Extends D E → (o : Ordinal) → OrdinalKnown D o → OrdinalKnown E o
ordinal_more D E x o k = record {
  low = k.low;
  high = k.high;
  rises = k.rises;
  host = host_more D E x o.host k.host;
  subrange = subrange_more D E x o.subrange o k.subrange;
}

module _ (D E : Table) (x : Extends D E) (b c : ℕ) (le : b ≤ c) where
  mutual
    pub type_more : (type : DataType) → TypeKnown D b type → TypeKnown E c type
    type_more (OrdinalType o) k = ordinal_more D E x o k
    type_more (PointerType n) k = omega (arith, k, le)
    type_more NilType k = k
    type_more (SetType denoter packing base) k = k
    type_more EmptySetType k = k
    type_more (TextType n) k = k
    type_more (ArrayType at packed index component) k = (
      x.structures at (ArrayType at packed index component) k.0,
      ordinal_more D E x index k.1,
      type_more component
          k.2,
    )
    type_more (RecordType at packed fields) k =
        (x.structures at (RecordType at packed fields) k.0, fields_more fields k.1)

    pub fields_more : (fields : FieldList) → FieldsKnown D b fields → FieldsKnown E c fields
    fields_more (field_list names types) k = types_more types k

    pub types_more : (types : DataTypes) → TypesKnown D b types → TypesKnown E c types
    types_more no_type k = tt
    types_more (type_before type rest) k = (type_more type k.0, types_more rest k.1)

pub extends_self : (D : Table) → Extends D D
extends_self D = record { structures = λ at type e. e; subranges = λ at o e. e; enumerations = λ at n e. e }

pub extends_both : (D E F : Table) → Extends D E → Extends E F → Extends D F
extends_both D E F x y = record {
  structures = λ at type e. y.structures at type (x.structures at type e);
  subranges = λ at o e. y.subranges at o (x.subranges at o e);
  enumerations = λ at n e. y.enumerations at n (x.enumerations at n e);
}
