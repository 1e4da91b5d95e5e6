-- What a call of the program makes of its words and of what it reads.
use Rattle.std.specs.Prelude.{◌≡◌, ℕ, Bool, true, false, List, [], ◌∷◌, ◌||◌, codes, take, Option, Some, None, ◌⊎◌}
use Rattle.std.specs.Str.{bytes_eq}
use Rattle.clap.specs.Kinds.{IsAmong, Kinds}
use Rattle.clap.specs.declared.error.kind.ErrorKind.{ErrorKind}
use Rattle.clap.specs.declared.error.kind.ErrorKind.TheVariants as kind

-- the first bytes of a reader, up to a limit; nothing is said of a reader whose bytes are not known
abbrev pub IsFrontOf : ℕ → Option (List ℕ) → List ℕ → Type 0
IsFrontOf limit None bytes = Unit {0}
IsFrontOf limit (Some all) bytes = bytes ≡ take limit all

-- the words request help, or the version, and are not a mistake
abbrev pub is_help : ErrorKind → Bool
is_help kind.DisplayHelp = true
is_help kind.DisplayVersion = true
is_help _ = false

abbrev pub IsHelp : Kinds → Type 0
IsHelp kinds = IsAmong kind.DisplayHelp kinds ⊎ IsAmong kind.DisplayVersion kinds

-- the words request the version and nothing else
abbrev pub asks_version : List (List ℕ) → Bool
asks_version [] = false
asks_version (word ∷ []) = bytes_eq word (codes "--version") || bytes_eq word (codes "-V")
asks_version (word ∷ other ∷ rest) = false
