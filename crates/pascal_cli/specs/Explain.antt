-- What `explain` shows.
use Rattle.std.specs.Prelude.{◌≡◌, ◌++◌, ℕ, Bool, List, [], ◌∷◌, codes, filter, flat_map, fold, map}
use Rattle.std.specs.List.{list_any}
use Rattle.pascal_pages.specs.Asked.{asks, names_of}
use Rattle.pascal_pages.specs.Pages.{pages}
use Rattle.pascal_pages.specs.declared.Page.{Page}

-- a page for each row of names, in their order
abbrev pub AreThePages : List Page → Type 0
AreThePages all = map names_of all ≡ pages

-- a page as it is shown: its title, an empty line, and its text
abbrev pub page_text : Page → List ℕ
page_text page = page.title.now ++ (codes "\n\n" ++ page.text.now)

-- what was shown, followed by an empty line if there was something
abbrev pub parted : List ℕ → List ℕ
parted [] = []
parted (byte ∷ bytes) = (byte ∷ bytes) ++ codes "\n"

abbrev pub with_page : List ℕ → Page → List ℕ
with_page before page = parted before ++ page_text page

-- of all pages those that a topic selects, one after the other
abbrev pub asked_pages : List ℕ → List Page → List Page
asked_pages topic all = filter (λ page. asks (names_of page) topic) all

abbrev pub shown : List Page → List ℕ
shown asked = fold with_page [] asked

-- there is a page on the topic
unfoldable pub has_page : List ℕ → Bool
has_page topic = list_any (λ names. asks names topic) pages

-- the titles of all pages, a line for each
abbrev pub titles : List ℕ
titles = flat_map (λ names. names.title ++ codes "\n") pages
