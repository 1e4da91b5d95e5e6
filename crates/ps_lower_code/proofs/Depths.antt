-- Temporaries of each class are at their depth or above.
use Rattle.std.proofs.Common.{ℕ, ◌≤◌, Bool, true, false, arith}
use Rattle.ps_lower_code.specs.Scopes.{even_from, odd_from, held, kept}

pub even_above : (d : ℕ) → d ≤ even_from d
even_above d = omega arith

pub odd_above : (d : ℕ) → d ≤ odd_from d
odd_above d = omega arith

pub held_above : (b : Bool) (d : ℕ) → d ≤ held b d
held_above true d = omega arith
held_above false d = omega arith

pub kept_above : (b : Bool) (d : ℕ) → d ≤ kept b d
kept_above true d = omega arith
kept_above false d = omega arith
