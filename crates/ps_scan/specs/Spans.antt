-- The places of a text's tokens.
use Rattle.std.specs.Prelude.{ℕ, ◌<◌, ◌≤◌, List, [], ◌∷◌}
use Rattle.ps_scan.specs.declared.token.Token.{Token}

-- the token has at least one byte, and ends at the offset or before it
abbrev pub IsWithin : ℕ → Token → Type 0
IsWithin high t = (t.span.from < t.span.to) × (t.span.to ≤ high)

-- the tokens come one after the other between two offsets, and each has at least one byte
abbrev pub AreOrdered : ℕ → ℕ → List Token → Type 0
AreOrdered low high [] = low ≤ high
AreOrdered low high (t ∷ ts) = (low ≤ t.span.from) × (t.span.from < t.span.to) × AreOrdered t.span.to high ts
