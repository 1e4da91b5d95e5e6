-- A type as a tree of numbers, and back: this distinguishes two types. No contract mentions it: the toolchain needs it,
-- so that structs can be seen as types.
use Rattle.std.specs.Prelude.{◌≡◌, ℕ, zero, suc, ℤ, pos, negsuc, Bool, true, false, List, [], ◌∷◌, Option, Some, None}
use Rattle.std.specs.Prelude.{refl}
use Rattle.std.specs.Coded.{Coded, code_by}
use base.Stored.{Gv, gnil, gnum, gcons}
use denote.Struct.Codes.{itself}
use Rattle.ps_tree.specs.declared.types.Host.{Host}
use Rattle.ps_tree.specs.declared.types.Host.TheVariants.{Integer, Char, Boolean, Enumeration}
use Rattle.ps_tree.specs.declared.types.Ordinal.{Ordinal}
use Rattle.ps_tree.specs.declared.types.Packing.{Packing}
use Rattle.ps_tree.specs.declared.types.Packing.TheVariants.{Packed, Unpacked, Either}
use Rattle.ps_tree.specs.Types.{DataType, OrdinalType, PointerType, NilType, SetType, EmptySetType, TextType}
use Rattle.ps_tree.specs.Types.{ArrayType, RecordType, FieldList, field_list, DataTypes, no_type, type_before}

abbrev pub number : Gv → ℕ
number gnil = 0
number (gnum n) = n
number (gcons a b) = 0

abbrev pub left : Gv → Gv
left gnil = gnil
left (gnum n) = gnil
left (gcons a b) = a

abbrev pub right : Gv → Gv
right gnil = gnil
right (gnum n) = gnil
right (gcons a b) = b

abbrev pub code_integer : ℤ → Gv
code_integer (pos n) = gnum n
code_integer (negsuc n) = gcons (gnum n) gnil

abbrev pub to_integer : Gv → ℤ
to_integer gnil = pos 0
to_integer (gnum n) = pos n
to_integer (gcons a b) = negsuc (number a)

pub integer_back : (z : ℤ) → to_integer (code_integer z) ≡ z
integer_back (pos n) = refl
integer_back (negsuc n) = refl

abbrev pub code_option : Option ℕ → Gv
code_option None = gnil
code_option (Some n) = gnum n

abbrev pub to_option : Gv → Option ℕ
to_option gnil = None
to_option (gnum n) = Some n
to_option (gcons a b) = None

pub option_back : (o : Option ℕ) → to_option (code_option o) ≡ o
option_back None = refl
option_back (Some n) = refl

abbrev pub code_bool : Bool → Gv
code_bool true = gnum 0
code_bool false = gnil

abbrev pub to_bool : Gv → Bool
to_bool gnil = false
to_bool (gnum n) = true
to_bool (gcons a b) = true

pub bool_back : (b : Bool) → to_bool (code_bool b) ≡ b
bool_back true = refl
bool_back false = refl

abbrev pub code_host : Host → Gv
code_host Integer = gnil
code_host Char = gnum 0
code_host Boolean = gnum 1
code_host (Enumeration at greatest) = gcons (gnum at) (code_integer greatest)

abbrev pub to_host : Gv → Host
to_host gnil = Integer
to_host (gnum zero) = Char
to_host (gnum (suc n)) = Boolean
to_host (gcons a b) = Enumeration (number a) (to_integer b)

pub host_back : (h : Host) → to_host (code_host h) ≡ h
host_back Integer = refl
host_back Char = refl
host_back Boolean = refl
host_back (Enumeration at greatest) = λ i. Enumeration at (integer_back greatest i)

abbrev pub code_packing : Packing → Gv
code_packing Packed = gnil
code_packing Unpacked = gnum 0
code_packing Either = gcons gnil gnil

abbrev pub to_packing : Gv → Packing
to_packing gnil = Packed
to_packing (gnum n) = Unpacked
to_packing (gcons a b) = Either

pub packing_back : (k : Packing) → to_packing (code_packing k) ≡ k
packing_back Packed = refl
packing_back Unpacked = refl
packing_back Either = refl

abbrev pub code_ordinal : Ordinal → Gv
code_ordinal o = gcons (gcons (code_host o.host) (code_option o.subrange))
    (gcons (code_integer o.low) (code_integer o.high))

abbrev pub to_ordinal : Gv → Ordinal
to_ordinal g = record {
  host = to_host (left (left g));
  subrange = to_option (right (left g));
  low = to_integer (left (right g));
  high = to_integer (right (right g));
}

pub ordinal_back : (o : Ordinal) → to_ordinal (code_ordinal o) ≡ o
ordinal_back o = λ i. record {
  host = host_back o.host i;
  subrange = option_back o.subrange i;
  low = integer_back o.low i;
  high = integer_back o.high i;
}

abbrev pub code_name : List ℕ → Gv
code_name [] = gnil
code_name (n ∷ ns) = gcons (gnum n) (code_name ns)

abbrev pub to_name : Gv → List ℕ
to_name gnil = []
to_name (gnum n) = []
to_name (gcons a b) = number a ∷ to_name b

pub name_back : (ns : List ℕ) → to_name (code_name ns) ≡ ns
name_back [] = refl
name_back (n ∷ ns) = λ i. n ∷ name_back ns i

abbrev pub code_names : List (List ℕ) → Gv
code_names [] = gnil
code_names (n ∷ ns) = gcons (code_name n) (code_names ns)

abbrev pub to_names : Gv → List (List ℕ)
to_names gnil = []
to_names (gnum n) = []
to_names (gcons a b) = to_name a ∷ to_names b

pub names_back : (ns : List (List ℕ)) → to_names (code_names ns) ≡ ns
names_back [] = refl
names_back (n ∷ ns) = λ i. name_back n i ∷ names_back ns i

-- a number for the form, then what it holds, and the types in it
abbrev mutual
  pub code_type : DataType → Gv
  code_type (OrdinalType o) = gcons (gnum 0) (gcons (code_ordinal o) gnil)
  code_type (PointerType n) = gcons (gnum 1) (gcons (gnum n) gnil)
  code_type NilType = gcons (gnum 2) (gcons gnil gnil)
  code_type (SetType denoter packing base) = gcons (gnum 3)
      (gcons (gcons (code_option denoter) (gcons (code_packing packing) (code_ordinal base))) gnil)
  code_type EmptySetType = gcons (gnum 4) (gcons gnil gnil)
  code_type (TextType length) = gcons (gnum 5) (gcons (gnum length) gnil)
  code_type (ArrayType at packed index component) = gcons (gnum 6)
      (gcons (gcons (gnum at) (gcons (code_bool packed) (code_ordinal index))) (gcons (code_type component) gnil))
  code_type (RecordType at packed (field_list names types)) = gcons (gnum 7)
      (gcons (gcons (gnum at) (gcons (code_bool packed) (code_names names))) (code_types types))

  pub code_types : DataTypes → Gv
  code_types no_type = gnil
  code_types (type_before t ts) = gcons (code_type t) (code_types ts)

abbrev pub first : DataTypes → DataType
first no_type = NilType
first (type_before t ts) = t

abbrev pub rest : DataTypes → DataTypes
rest no_type = no_type
rest (type_before t ts) = ts

abbrev pub by_form : ℕ → Gv → DataTypes → DataType
by_form zero g ts = OrdinalType (to_ordinal g)
by_form (suc zero) g ts = PointerType (number g)
by_form (suc (suc zero)) g ts = NilType
by_form (suc (suc (suc zero))) g ts = SetType (to_option (left g)) (to_packing (left (right g)))
    (to_ordinal (right (right g)))
by_form (suc (suc (suc (suc zero)))) g ts = EmptySetType
by_form (suc (suc (suc (suc (suc zero))))) g ts = TextType (number g)
by_form (suc (suc (suc (suc (suc (suc zero)))))) g ts = ArrayType (number (left g)) (to_bool (left (right g)))
    (to_ordinal (right (right g))) (first ts)
by_form (suc (suc (suc (suc (suc (suc (suc n))))))) g ts = RecordType (number (left g)) (to_bool (left (right g)))
    (field_list (to_names (right (right g))) ts)

-- the type that this represents, and the types, if it represents a list of them
abbrev pub back : Gv → DataType × DataTypes
back gnil = (NilType, no_type)
back (gnum n) = (NilType, no_type)
back (gcons a b) = (by_form (number a) (left b) (rest (back b).1), type_before (back a).0 (back b).1)

mutual
  pub type_back : (t : DataType) → (back (code_type t)).0 ≡ t
  type_back (OrdinalType o) = λ i. OrdinalType (ordinal_back o i)
  type_back (PointerType n) = refl
  type_back NilType = refl
  type_back (SetType denoter packing base) = λ i. SetType (option_back denoter i) (packing_back packing i)
      (ordinal_back base i)
  type_back EmptySetType = refl
  type_back (TextType length) = refl
  type_back (ArrayType at packed index component) = λ i. ArrayType at (bool_back packed i) (ordinal_back index i)
      (type_back component i)
  type_back (RecordType at packed (field_list names types)) = λ i. RecordType at (bool_back packed i)
      (field_list (names_back names i) (types_back types i))

  pub types_back : (ts : DataTypes) → (back (code_types ts)).1 ≡ ts
  types_back no_type = refl
  types_back (type_before t ts) = λ i. type_before (type_back t i) (types_back ts i)

abbrev pub type_code : Coded DataType
type_code = code_by Gv itself code_type (λ g. (back g).0) type_back

abbrev pub code_fields : FieldList → Gv
code_fields (field_list names types) = gcons (code_names names) (code_types types)

abbrev pub to_fields : Gv → FieldList
to_fields g = field_list (to_names (left g)) (back (right g)).1

pub fields_back : (f : FieldList) → to_fields (code_fields f) ≡ f
fields_back (field_list names types) = λ i. field_list (names_back names i) (types_back types i)

abbrev pub fields_code : Coded FieldList
fields_code = code_by Gv itself code_fields to_fields fields_back
