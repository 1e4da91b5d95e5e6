-- What the required procedures do, part by part.
use Rattle.std.specs.Prelude.{ℕ, ℤ, [], ◌∷◌, ◌++◌}
use Rattle.ps_tree.specs.Tree.{Program, domain_at}
use Rattle.ps_tree.specs.declared.tree.operators.Range.TheVariants.{Within as WithinBounds}
use Rattle.ps_meaning.specs.Values as v
use Rattle.ps_meaning.specs.Text as t
use Rattle.ps_meaning.specs.Worlds as m
use Rattle.ps_meaning.specs.Statements as st
use Rattle.ps_meaning.specs.Expressions as e

-- what was found when an integer was read, in a range
abbrev pub integer_fitting : t.Reading → (low high : ℤ) (line : ℕ) → m.Context → m.Act v.Value
integer_fitting found low high line c = λ w. m.and_then (st.integer_found found line c w)
    (λ x. e.fitting (WithinBounds low high) x line c)

-- the world with one more object
abbrev pub world_made : Program → (pointer : ℕ) → m.World → m.World
world_made program pointer w = record w {
  objects = w.objects ++ v.first (domain_at program pointer) ∷ [];
  made = w.made
      ++ pointer ∷ [];
}
