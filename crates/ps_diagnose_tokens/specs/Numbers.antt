-- Which refusals are those of the scanner and of the parser.
use Rattle.std.specs.Prelude.{ℕ, ◌≤◌, ◌⊎◌}

-- the number is of one by the scanner (10 to 16) or by the parser (20 to 22)
abbrev pub IsOfTokens : ℕ → Type 0
IsOfTokens number = ((10 ≤ number) × (number ≤ 16)) ⊎ ((20 ≤ number) × (number ≤ 22))
