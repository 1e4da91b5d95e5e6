-- Families: what a run shows after each count of steps. Every layer of the compiler states its contract with these.
use Rattle.std.specs.Prelude.{◌≡◌, ℕ, ◌≤◌}
use Rattle.behavior.specs.Endings.{IsMore}
use Rattle.behavior.specs.Transcripts.{Shown, GoesOn}

-- whatever a shows after n steps, b shows after at least n: no output is held back, and an unending run is unending in
-- both
abbrev pub Same : {A : Type 0} → (ℕ → A) → (ℕ → A) → Type 0
Same a b = (n : ℕ) → (m : ℕ) × (n ≤ m) × (b m ≡ a n)

-- with more steps, a run that has ended stays as it is, and one that has not goes on
abbrev pub Grows : (ℕ → Shown) → Type 0
Grows a = (m n : ℕ) → m ≤ n → GoesOn IsMore (a m) (a n)
