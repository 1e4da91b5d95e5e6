-- What is noted of the fields of opened records, so that a name need not be looked up in each of them.
use Rattle.std.specs.Prelude.{◌≡◌, ◌+◌, ◌<◌, ◌≤◌, ℕ, Bool, nat_lt, List, [], ◌∷◌, length, Option, Some, None, is_some}
use Rattle.std.specs.Prelude.{option_and_then, slice_get, get_or}
use Rattle.ps_tree.specs.declared.types.Ty.{Ty}
use Rattle.ps_tree.specs.Types.{DataType, field_in, field_names}
use Rattle.ps_tree.specs.Names.{place}
use Rattle.ps_tree.specs.View.{type_of}
use Rattle.ps_check_names.specs.Regions.{fields_of}
use Rattle.ps_check_names.specs.Sets.{Passed}

-- a record of this type has a field of this name
abbrev pub HasField : Ty → List ℕ → Type 0
HasField ty s = (f : ℕ × DataType) × (field_in (fields_of (type_of ty)) s ≡ Some f)

abbrev pub at_place : List ℕ → Option ℕ → ℕ
at_place reaches None = 0
at_place reaches (Some i) = get_or reaches i 0

-- the number of records up to the last that has a field of the name, by what is noted
abbrev pub reach_of : (names : List (List ℕ)) (reaches : List ℕ) → List ℕ → ℕ
reach_of names reaches s = at_place reaches (place names s)

-- record k is noted for the name of each of its fields, unless it is searched itself, or is not after the last of a
-- wide type that has the name
abbrev pub Covers : List Ty → (asked : ℕ) (names : List (List ℕ)) (reaches : List ℕ) (kinds : List ℕ → List ℕ)
    (present latest : List ℕ) → Type 0
Covers records asked names reaches kinds present latest = (s : List ℕ) (k : ℕ) (ty : Ty) → slice_get records k ≡ Some ty
    → HasField ty s → asked ≤ k → Passed (kinds s) present latest k → k < reach_of names reaches s

-- a record that has a field of the name is one of the first n, if it is after the last of each wide type that has the
-- name
abbrev pub Narrow : List Ty → (kinds : List ℕ → List ℕ) → (present latest : List ℕ) → List ℕ → ℕ → Type 0
Narrow records kinds present latest s n = (k : ℕ) (ty : Ty) → slice_get records k ≡ Some ty → HasField ty s → Passed
    (kinds s) present latest k → k < n

-- how many characters names take, each with a comma
abbrev pub written_length : List (List ℕ) → ℕ
written_length [] = 0
written_length (s ∷ names) = length s + 1 + written_length names

-- the names of the fields are longer than what is noted with each record
abbrev pub is_wide : DataType → Bool
is_wide type = nat_lt 192 (written_length (field_names (fields_of type)))

-- whether a record of this type has a field of this name
abbrev pub has_field : Ty → List ℕ → Bool
has_field ty s = is_some (field_in (fields_of (type_of ty)) s)

-- the records have fields of the same names
abbrev pub IsLike : Ty → Ty → Type 0
IsLike ty other = (s : List ℕ) → has_field ty s ≡ has_field other s

-- whether there is a record with this number, and it has a field of this name
abbrev pub has_field_at : List Ty → ℕ → List ℕ → Bool
has_field_at records number s = is_some (option_and_then (λ ty. field_in (fields_of (type_of ty)) s)
    (slice_get records number))

-- there is a record with this number, and it is like those of the type
abbrev pub StandsIn : Ty → List Ty → ℕ → Type 0
StandsIn ty records number = (number < length records) × ((s : List ℕ) → has_field ty s
    ≡ has_field_at records number s)

-- what is noted stays so
abbrev pub Keeps : (names : List (List ℕ)) (reaches : List ℕ) (names' : List (List ℕ)) (reaches' : List ℕ) → Type 0
Keeps names reaches names' reaches' = (s : List ℕ) → reach_of names reaches s ≤ reach_of names' reaches' s

-- none of the records from a place on has a field of the name
abbrev pub NoneBehind : List Ty → ℕ → List ℕ → Type 0
NoneBehind records n s = (k : ℕ) (ty : Ty) → slice_get records (n + k) ≡ Some ty → field_in (fields_of (type_of ty)) s
    ≡ None
