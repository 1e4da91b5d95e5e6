-- Which wide record types have a field of a name, by their numbers.
use Rattle.std.specs.Prelude.{◌≡◌, ℕ, List, [], Option, Some, None, slice_get, get_or}
use Rattle.ps_tree.specs.declared.types.Ty.{Ty}
use Rattle.ps_tree.specs.Names.{place}
use Rattle.ps_check_names.specs.Opened.{HasField}
use Rattle.ps_check_names.specs.Sets.{Holds}

abbrev pub kind_at : List (List ℕ) → Option ℕ → List ℕ
kind_at kinds None = []
kind_at kinds (Some i) = get_or kinds i []

-- the set of the numbers of the types that have a field of the name, by what is noted
abbrev pub kind_of : (names : List (List ℕ)) (kinds : List (List ℕ)) → List ℕ → List ℕ
kind_of names kinds s = kind_at kinds (place names s)

-- each type is noted for the names of its fields
abbrev pub Listed : List Ty → (names : List (List ℕ)) (kinds : List (List ℕ)) → Type 0
Listed types names kinds = (s : List ℕ) (n : ℕ) (ty : Ty) → slice_get types n ≡ Some ty → HasField ty s → Holds
    (kind_of names kinds s) n

-- what is noted of types stays so
abbrev pub KeepsKinds : (names kinds names' kinds' : List (List ℕ)) → Type 0
KeepsKinds names kinds names' kinds' = (s : List ℕ) (n : ℕ) → Holds (kind_of names kinds s) n → Holds
    (kind_of names' kinds' s) n
