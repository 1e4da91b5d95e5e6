-- The facts whose values differ.
use Rattle.std.specs.Prelude.{Bool, not, ◌&&◌, ◌||◌, List, [], ◌∷◌, if◌then◌else◌}
use Rattle.std.specs.Str.{bytes_eq}
use Rattle.pascal_certificate.specs.Facts.{Text, is_not_known, may_be_untold}
use Rattle.pascal_certificate.specs.declared.compare.Change.{Change}
use Rattle.pascal_certificate.specs.declared.fact.Fact.{Fact}

-- The values are not the same, and both are known if one may be unknown.
abbrev pub differ : Fact → Text → Text → Bool
differ fact old new = not (bytes_eq old new) && not (may_be_untold fact && (is_not_known old || is_not_known new))

-- a fact with its two values
pub record Difference : Type 0 where
  pub fact : Fact
  pub old : Text
  pub new : Text

abbrev pub with_both : Fact → Text → Text → Difference
with_both fact old new = record { fact = fact; old = old; new = new }

abbrev pub difference_of : Change → Difference
difference_of change = with_both change.fact change.old.now change.new.now

-- the facts whose values differ, in their order
abbrev pub differences : List Fact → List Text → List Text → List Difference
differences [] olds news = []
differences (fact ∷ facts) [] news = []
differences (fact ∷ facts) (old ∷ olds) [] = []
differences (fact ∷ facts) (old ∷ olds) (new ∷ news) =
    if differ fact old new then with_both fact old new ∷ differences facts olds news else differences facts olds news
