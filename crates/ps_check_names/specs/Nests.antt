-- The records of `with` statements, each statement within the one before it.
use Rattle.std.specs.Prelude.{◌≡◌, List, [], ◌∷◌, ◌++◌, ℕ, Some, slice_get}
use Rattle.ps_tree.specs.declared.types.Ty.{Ty}
use Rattle.ps_check_names.specs.Marks.{number_of}
use Rattle.ps_check_names.specs.declared.opened.Opened.{Opened}
use Rattle.ps_check_names.specs.declared.nests.Levels.{Levels, One, Within'}

-- the statements, the last of which is the innermost
unfoldable pub levels_of : Levels → List Opened
levels_of (One opened) = opened.now ∷ []
levels_of (Within' opened p outer) = levels_of outer ++ opened.now ∷ []

-- the records of all of them, the last of which is the innermost
unfoldable pub records_in : List Opened → List Ty
records_in [] = []
records_in (level ∷ levels) = level.records.items ++ records_in levels

-- numbers are places among these names in each of them
abbrev pub NumberedBy : List Opened → (fields : List (List ℕ)) → Type 0
NumberedBy levels fields = (k : ℕ) (level : Opened) → slice_get levels k ≡ Some level → fields ≡ level.wides.now.fields

-- it is the number of the name in each of them
abbrev pub IsNumber : List Opened → List ℕ → (number : ℕ) → Type 0
IsNumber levels s number = (k : ℕ) (level : Opened) → slice_get levels k ≡ Some level → number
    ≡ number_of level.wides.now.fields s
