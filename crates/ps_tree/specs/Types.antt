-- The types of a program (6.4): what a type is, when two are the same (6.4.1), compatible (6.4.5) and
-- assignment-compatible (6.4.6).
use Rattle.std.specs.Prelude.{◌≡◌, ℕ, zero, suc, option_map, option_and_then, nat_le, ℤ, pos, negsuc, Bool, true}
use Rattle.std.specs.Prelude.{false, ◌&&◌, ◌||◌, ◌==◌, if◌then◌else◌, int_lt, List, [], ◌∷◌, Option, Some, None}
use Rattle.std.specs.Prelude.{is_some, is_none, IsTrue}
use Rattle.ps_tree.specs.declared.types.Host.{Host}
use Rattle.ps_tree.specs.declared.types.Host.TheVariants.{Integer, Char, Boolean, Enumeration}
use Rattle.ps_tree.specs.declared.types.Ordinal.{Ordinal}
use Rattle.ps_tree.specs.declared.types.Packing.{Packing}
use Rattle.ps_tree.specs.declared.types.Packing.TheVariants.{Packed, Unpacked}
use Rattle.ps_tree.specs.Names.{place}

-- Each denoter other than a type name makes a new type (6.4.1): a set, array or record type, a subrange and an
-- enumerated type carry the offset of their denoter's first token. A pointer type carries its number among the pointer
-- types.
mutual
  pub data DataType : Type 0 where
    OrdinalType : Ordinal → DataType
    PointerType : (number : ℕ) → DataType
    -- the type of nil
    NilType : DataType
    -- without a denoter, the type of a set constructor or of an operation on sets
    SetType : (denoter : Option ℕ) → Packing → (base : Ordinal) → DataType
    -- the type of []
    EmptySetType : DataType
    -- the type of a string in the text
    TextType : (length : ℕ) → DataType
    ArrayType : (at : ℕ) (packed : Bool) (index : Ordinal) → DataType → DataType
    RecordType : (at : ℕ) (packed : Bool) → FieldList → DataType

  -- the names of the fields and their types, in the same order
  pub data FieldList : Type 0 where
    field_list : (names : List (List ℕ)) → DataTypes → FieldList

  pub data DataTypes : Type 0 where
    no_type : DataTypes
    type_before : DataType → DataTypes → DataTypes

-- the types of the fields
abbrev pub field_types : FieldList → DataTypes
field_types (field_list names types) = types

-- the names of the fields
abbrev pub field_names : FieldList → List (List ℕ)
field_names (field_list names types) = names

-- the number of these types
abbrev pub type_count : DataTypes → ℕ
type_count no_type = 0
type_count (type_before type rest) = suc (type_count rest)

-- the fields have the same names, in the same order, and there is the same number of types
abbrev pub HaveSameNames : FieldList → FieldList → Type 0
HaveSameNames a b = (field_names a ≡ field_names b) × (type_count (field_types a) ≡ type_count (field_types b))

abbrev pub is_same_host : Host → Host → Bool
is_same_host Integer Integer = true
is_same_host Char Char = true
is_same_host Boolean Boolean = true
is_same_host (Enumeration a m) (Enumeration b n) = a == b
is_same_host _ _ = false

-- both are present, and are the same number
abbrev pub are_same : Option ℕ → Option ℕ → Bool
are_same (Some a) (Some b) = a == b
are_same _ _ = false

-- the same ordinal type: with the same host, and subranges of the same denoter if subranges at all
abbrev pub is_same_ordinal : Ordinal → Ordinal → Bool
is_same_ordinal o p = is_same_host o.host p.host
    && (are_same o.subrange p.subrange || (is_none o.subrange && is_none p.subrange))

-- 6.4.1: the same type
unfoldable pub is_same_type : DataType → DataType → Bool
is_same_type (OrdinalType o) (OrdinalType p) = is_same_ordinal o p
is_same_type (PointerType a) (PointerType b) = a == b
is_same_type NilType NilType = true
is_same_type (SetType a k o) (SetType b l p) = are_same a b
is_same_type EmptySetType EmptySetType = true
is_same_type (ArrayType a k i s) (ArrayType b l j t) = a == b
is_same_type (RecordType a k f) (RecordType b l g) = a == b
is_same_type _ _ = false

abbrev pub natural : ℤ → ℕ
natural (pos n) = n
natural (negsuc n) = 0

abbrev pub is_one : ℤ → Bool
is_one (pos n) = n == 1
is_one (negsuc n) = false

-- the type char itself
abbrev pub is_char : DataType → Bool
is_char (OrdinalType o) = is_same_host o.host Char && is_none o.subrange
is_char _ = false

-- a subrange of integer from 1 to n > 1
abbrev pub is_string_index : Ordinal → Bool
is_string_index o = is_same_host o.host Integer && is_some o.subrange && is_one o.low && int_lt (pos 1) o.high

-- 6.4.3.2: the length of the strings that are the values of a string type
unfoldable pub string_length : DataType → Option ℕ
string_length (TextType length) = Some length
string_length (ArrayType at true index component) = if is_char component && is_string_index index then Some
    (natural index.high) else None
string_length _ = None

-- two sets are both packed or both not; a set constructor is both
abbrev pub goes_with : Packing → Packing → Bool
goes_with Packed Unpacked = false
goes_with Unpacked Packed = false
goes_with _ _ = true

-- 6.4.5: two types are compatible if one of these holds
pub data Compatible : DataType → DataType → Type 0 where
  -- a: they are the same type
  same : (s t : DataType) → IsTrue (is_same_type s t) → Compatible s t
  -- b: one is a subrange of the other, or both are subranges of one host
  ordinals : (o p : Ordinal) → IsTrue (is_same_host o.host p.host) → Compatible (OrdinalType o) (OrdinalType p)
  -- c: they are sets with compatible bases, both packed or both not; [] is of every set type
  sets : (a b : Option ℕ) (k l : Packing) (o p : Ordinal) → IsTrue (is_same_host o.host p.host) → IsTrue (goes_with k l)
      → Compatible (SetType a k o) (SetType b l p)
  empty_first : (b : Option ℕ) (l : Packing) (p : Ordinal) → Compatible EmptySetType (SetType b l p)
  empty_second : (a : Option ℕ) (k : Packing) (o : Ordinal) → Compatible (SetType a k o) EmptySetType
  -- d: they are string types with the same number of components
  strings : (s t : DataType) (n : ℕ) → string_length s ≡ Some n → string_length t ≡ Some n → Compatible s t
  -- nil is of every pointer type
  nil_first : (n : ℕ) → Compatible NilType (PointerType n)
  nil_second : (n : ℕ) → Compatible (PointerType n) NilType

-- the types that a variable can have
abbrev pub has_variables : DataType → Bool
has_variables NilType = false
has_variables EmptySetType = false
has_variables (TextType n) = false
has_variables _ = true

-- 6.4.6: a value of the first type may be assigned to a variable of the second, apart from its range, which is tested
-- at run time
abbrev pub Assignable : DataType → DataType → Type 0
Assignable from to = IsTrue (has_variables to) × Compatible from to

-- the same as a test
unfoldable pub is_compatible : DataType → DataType → Bool
is_compatible (OrdinalType o) (OrdinalType p) = is_same_host o.host p.host
is_compatible (SetType a k o) (SetType b l p) = are_same a b || (is_same_host o.host p.host && goes_with k l)
is_compatible EmptySetType (SetType b l p) = true
is_compatible (SetType a k o) EmptySetType = true
is_compatible NilType (PointerType n) = true
is_compatible (PointerType n) NilType = true
is_compatible s t = is_same_type s t || are_same (string_length s) (string_length t)

abbrev pub is_assignable : DataType → DataType → Bool
is_assignable from to = has_variables to && is_compatible from to

-- these types
abbrev pub listed : List DataType → DataTypes
listed [] = no_type
listed (t ∷ ts) = type_before t (listed ts)

-- the type at this place
abbrev pub type_at : DataTypes → ℕ → Option DataType
type_at no_type n = None
type_at (type_before type rest) zero = Some type
type_at (type_before type rest) (suc n) = type_at rest n

-- the field at this place, by its number and its type. Numbers go up to 4294967295 (this project's limit; no text of
-- 1,048,576 bytes comes near).
abbrev pub field_at : DataTypes → ℕ → Option (ℕ × DataType)
field_at types n = if nat_le n 4294967295 then option_map (λ type. (n, type)) (type_at types n) else None

-- 6.4.3.3: the field of this name
abbrev pub field_in : FieldList → List ℕ → Option (ℕ × DataType)
field_in (field_list names types) s = option_and_then (field_at types) (place names s)
