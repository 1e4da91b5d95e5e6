-- What is added to a number.
use Rattle.std.specs.Prelude.{ℕ, ◌+◌, ◌≤◌}

-- at most n was added: a number that would be too large stays below
pub record Adds (before after n : ℕ) : Type 0 where
  pub most : after ≤ before + n
