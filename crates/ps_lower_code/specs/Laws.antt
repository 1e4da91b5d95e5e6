-- Laws of temporaries.
use Rattle.std.specs.Prelude.{ℕ, ◌≤◌, Bool}
use Rattle.ps_lower_code.specs.Scopes.{held, kept}

-- what is chosen at a depth is at it or above
abbrev pub HeldAbove : Type 0
HeldAbove = (b : Bool) (d : ℕ) → d ≤ held b d

abbrev pub KeptAbove : Type 0
KeptAbove = (b : Bool) (d : ℕ) → d ≤ kept b d
