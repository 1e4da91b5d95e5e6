-- The least stack that holds each path of calls, or that there is none.
use Rattle.std.specs.Prelude.{◌≡◌, ℕ, ◌<◌, List, get_or, sum_by}
use Rattle.ps_tree.specs.Tree.{Program}
use Rattle.ps_needs_least.specs.Paths.{Path, HoldsAll}

-- S bytes hold each path, and one path takes them all
abbrev pub IsLeast : Program → (F : List ℕ) → (S : ℕ) → Type 0
IsLeast program F S = HoldsAll program F S × ((rs : List ℕ) × Path program rs × (sum_by (λ r. get_or F r 0) rs ≡ S))

-- whatever the stack is, a path takes more
abbrev pub HasNoBound : Program → (F : List ℕ) → Type 0
HasNoBound program F = (S : ℕ) → (rs : List ℕ) × Path program rs × (S < sum_by (λ r. get_or F r 0) rs)
