-- Sets of numbers by their bits, 64 in a word.
use Rattle.std.specs.Prelude.{◌≡◌, ◌/◌, ◌%◌, ◌<◌, ◌≤◌, ℕ, List, get_or}
use Rattle.std.specs.Int.{bit_at}

-- a number is in the set
abbrev pub Holds : (words : List ℕ) → ℕ → Type 0
Holds words n = bit_at (get_or words (n / 64) 0) (n % 64) ≡ 1

-- no number is in both sets
abbrev pub Apart : (kind present : List ℕ) → Type 0
Apart kind present = (n : ℕ) → Holds kind n → Holds present n → ⊥

-- no number in both sets has another of more than k
abbrev pub Passed : (kind present latest : List ℕ) → ℕ → Type 0
Passed kind present latest k = (n : ℕ) → Holds kind n → Holds present n → get_or latest n 0 ≤ k

-- a number in both sets has another of more than k
abbrev pub Reached : (kind present latest : List ℕ) → ℕ → Type 0
Reached kind present latest k = (n : ℕ) × Holds kind n × Holds present n × (k < get_or latest n 0)
