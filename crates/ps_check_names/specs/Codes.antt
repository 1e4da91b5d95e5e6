-- The code of a formal parameter list: words by which two lists that are alike are recognised quickly (this project's
-- format). Two lists that have a code, and the same one, are congruous (ISO 7185, 6.6.3.6).
use Rattle.std.specs.Prelude.{ℕ, ◌+◌, ◌-◌, ◌*◌, Bool, true, false, not, ◌&&◌, nat_lt, nat_le, if◌then◌else◌, List, []}
use Rattle.std.specs.Prelude.{◌∷◌, ◌++◌, length, ◌==◌, Option, Some, None}
use Rattle.ps_tree.specs.declared.types.Host.{Host}
use Rattle.ps_tree.specs.declared.types.Host.TheVariants.{Integer, Char, Boolean, Enumeration}
use Rattle.ps_tree.specs.Types.{DataType, OrdinalType, PointerType, NilType, SetType, EmptySetType, TextType}
use Rattle.ps_tree.specs.Types.{ArrayType, RecordType}
use Rattle.ps_tree.specs.Names.{same}
use Rattle.ps_check_names.specs.Regions.{Section, ValueSection, VariableSection, RoutineSection, Sections, no_section}
use Rattle.ps_check_names.specs.Regions.{section_before}

-- What distinguishes types (6.4.1): for an ordinal type one of eight classes, and the offset of its denoter
abbrev pub class : Option ℕ → Host → ℕ
class (Some at) Integer = 0
class (Some at) Char = 1
class (Some at) Boolean = 2
class (Some at) (Enumeration a n) = 3
class None Integer = 4
class None Char = 5
class None Boolean = 6
class None (Enumeration a n) = 7

abbrev pub denoter : Option ℕ → Host → ℕ
denoter (Some at) h = at
denoter None (Enumeration a n) = a
denoter None _ = 0

abbrev pub ordinal_number : Option ℕ → Host → ℕ
ordinal_number s h = denoter s h * 8 + class s h

-- the form of a type, below 8, and its number among the types of its form
unfoldable pub form : DataType → ℕ
form (OrdinalType o) = 0
form (PointerType n) = 1
form (SetType at k o) = 2
form (ArrayType at k i t) = 3
form (RecordType at k f) = 4
form _ = 5

unfoldable pub number : DataType → ℕ
number (OrdinalType o) = ordinal_number o.subrange o.host
number (PointerType n) = n
number (SetType (Some at) k o) = at
number (ArrayType at k i t) = at
number (RecordType at k f) = at
number _ = 0

-- a type that can be named has one
unfoldable pub has_number : DataType → Bool
has_number (SetType None k o) = false
has_number NilType = false
has_number EmptySetType = false
has_number (TextType n) = false
has_number _ = true

-- the enumerated type of which an ordinal type is a subrange
abbrev pub enumeration : Option ℕ → Host → List ℕ
enumeration (Some at) (Enumeration a n) = a ∷ []
enumeration _ _ = []

unfoldable pub hosts : DataType → List ℕ
hosts (OrdinalType o) = enumeration o.subrange o.host
hosts _ = []

-- 1 to 32 parameters of a type that has a number below 2^23
abbrev pub fits_type : (count : ℕ) → DataType → Bool
fits_type n t = (nat_lt 0 n && nat_le n 32) && (has_number t && nat_lt (number t) 8388608)

-- The lowest four bits of a word say what it is: 0 to 4 and 8 to 12 a value and a variable parameter, by the form of
-- its type; 15 a procedural and 14 a functional one; 7 the end of a list.
abbrev pub first_word : (count kind : ℕ) → DataType → ℕ
first_word n kind t = (number t * 32 + (n - 1)) * 16 + (form t + kind)

abbrev pub type_words : (count kind : ℕ) → DataType → List ℕ
type_words n kind t = first_word n kind t ∷ hosts t

abbrev pub fits_result : Option DataType → Bool
fits_result None = true
fits_result (Some t) = fits_type 1 t

abbrev pub result_words : Option DataType → List ℕ
result_words None = 15 ∷ []
result_words (Some t) = 14 ∷ type_words 1 0 t

unfoldable mutual
  pub fits_section : Section → Bool
  fits_section (ValueSection n t) = fits_type n t
  fits_section (VariableSection n t) = fits_type n t
  fits_section (RoutineSection ss t) = fits ss && fits_result t

  pub fits : Sections → Bool
  fits no_section = true
  fits (section_before s ss) = fits_section s && fits ss

unfoldable mutual
  pub section_words : Section → List ℕ
  section_words (ValueSection n t) = type_words n 0 t
  section_words (VariableSection n t) = type_words n 8 t
  section_words (RoutineSection ss t) = result_words t ++ words ss

  pub words : Sections → List ℕ
  words no_section = 7 ∷ []
  words (section_before s ss) = section_words s ++ words ss

-- the code of a list; none if something doesn't fit
unfoldable pub code_of : Sections → List ℕ
code_of ss = if fits ss then words ss else []

-- both have a code, and the same
unfoldable pub have_one_code : Sections → Sections → Bool
have_one_code a b = not (length (code_of a) == 0) && same (code_of a) (code_of b)
