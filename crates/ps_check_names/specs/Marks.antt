-- Marks and numbers of names: one is computed from a name and then looked up in many sets.
use Rattle.std.specs.Prelude.{◌≡◌, ◌%◌, ℕ, List, length, Option, None, Some, slice_get}
use Rattle.std.specs.Hash.FoldHasher as folding
use Rattle.std.specs.declared.hash.FoldHasher.{FoldHasher}
use Rattle.ps_tree.specs.Names.{place}
use Rattle.ps_tree.specs.declared.types.Ty.{Ty}
use Rattle.ps_check_names.specs.Opened.{HasField}
use Rattle.ps_check_names.specs.Sets.{Holds, Apart, Passed}

-- the mark of a name, for hashes that begin in this state
abbrev pub mark_of : FoldHasher → List ℕ → ℕ
mark_of start s = folding.finish (folding.write start s) % 16384

-- a number is the mark of the name, for hashes that begin in this state
abbrev pub IsMark : (state number : ℕ) → List ℕ → Type 0
IsMark state number s = (start : FoldHasher) → folding.finish start ≡ state → number ≡ mark_of start s

abbrev pub place_or : (otherwise : ℕ) → Option ℕ → ℕ
place_or otherwise None = otherwise
place_or otherwise (Some m) = m

-- the number of a name: its place among the names of fields, or the place after them, which all others share
abbrev pub number_of : (fields : List (List ℕ)) → List ℕ → ℕ
number_of fields s = place_or (length fields) (place fields s)

-- the names of a record's fields have their marks, or numbers, in the set
abbrev pub MarkedFor : Ty → (mark : List ℕ → ℕ) → (marks : List ℕ) → Type 0
MarkedFor ty mark marks = (s : List ℕ) → HasField ty s → Holds marks (mark s)

-- so have those of all records, except the names of record k that a wide type has whose last record is not before it
abbrev pub Marked : List Ty → (kinds : List ℕ → List ℕ) → (present latest : List ℕ) → (mark : List ℕ → ℕ)
    → (marks : List ℕ) → Type 0
Marked records kinds present latest mark marks = (s : List ℕ) (k : ℕ) (ty : Ty) → slice_get records k ≡ Some ty
    → HasField ty s → Passed (kinds s) present latest k → Holds marks (mark s)

-- a name that no wide type in the set has is that of no field of the records, unless it has its mark in the other set
abbrev pub Shown : List Ty → (mark : List ℕ → ℕ) → (marks : List ℕ) → (kinds : List ℕ → List ℕ) → (present : List ℕ)
    → Type 0
Shown records mark marks kinds present = (s : List ℕ) (k : ℕ) (ty : Ty) → slice_get records k ≡ Some ty → HasField ty s
    → Apart (kinds s) present → Holds marks (mark s)
