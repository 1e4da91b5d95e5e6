-- Which page words select.
use Rattle.std.specs.Prelude.{◌||◌, ℕ, Bool, List, map}
use Rattle.std.specs.Char.{to_ascii_lowercase}
use Rattle.std.specs.Str.{bytes_eq}
use Rattle.pascal_pages.specs.declared.Page.{Page}

-- how a page may be selected: by its title, its words, its number, that with its kind, or the beginning of its messages
pub record Names : Type 0 where
  pub title : List ℕ
  pub words : List ℕ
  pub number : List ℕ
  pub named : List ℕ
  pub told : List ℕ

abbrev pub page_names : List ℕ → List ℕ → List ℕ → List ℕ → List ℕ → Names
page_names title words number named told =
    record { title = title; words = words; number = number; named = named; told = told }

abbrev pub names_of : Page → Names
names_of page = page_names page.title.now page.words.now page.number.now page.named.now page.told.now

-- two texts with the same letters, small or capital
abbrev pub is_spelled : List ℕ → List ℕ → Bool
is_spelled a b = bytes_eq (map to_ascii_lowercase a) (map to_ascii_lowercase b)

-- words select a page by one of its names
abbrev pub asks : Names → List ℕ → Bool
asks names words =
    is_spelled words names.title || (is_spelled words names.words
    || (is_spelled words names.number || (is_spelled words names.named || is_spelled words names.told)))
