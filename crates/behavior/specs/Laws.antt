-- The laws of what runs show.
use Rattle.std.specs.Prelude.{◌≡◌, ◌⊎◌, ℕ, List, ◌++◌}
use Rattle.behavior.specs.Endings.{IsMore, IsStop}
use Rattle.behavior.specs.Transcripts.{Shown, output, written, GoesOn}
use Rattle.behavior.specs.Same.{Same, Grows}

abbrev pub OutputAppends : Type 0
OutputAppends = (a b : List ℕ) → output (a ++ b) ≡ output a ++ output b

abbrev pub SameReflexive : Type 0
SameReflexive = (a : ℕ → Shown) → Same a a

abbrev pub SameComposes : Type 0
SameComposes = (a b c : ℕ → Shown) → Same a b → Same b c → Same a c

abbrev pub SameIsWritten : Type 0
SameIsWritten = (a b : ℕ → Shown) → Same a b → Same (λ n. written (a n)) (λ n. written (b n))

-- Nothing that b shows is missing from a: b at m is a at some n, or goes on to it.
abbrev pub SameHasConverse : Type 0
SameHasConverse = (a b : ℕ → Shown) → Grows b → Same a b → (m : ℕ) → (n : ℕ) × GoesOn IsMore (b m) (a n)

-- if b has ended, a ends in the same way
abbrev pub SameEndsAlike : Type 0
SameEndsAlike = (a b : ℕ → Shown) → Grows b → Same a b → (m : ℕ) → (IsMore (b m).1 → ⊥) → (n : ℕ) × (a n ≡ b m)

-- A run b that is the same as a, which is a run c that may be stopped: b reaches what c shows, or is stopped on the way
-- to it; and what b shows is what c shows, or a part of it.
pub record Stopped (c b : ℕ → Shown) : Type 0 where
  pub comes : (n : ℕ) → (m : ℕ) × GoesOn IsStop (b m) (c n)
  pub shows : (m : ℕ) → (n : ℕ) × GoesOn (λ e. IsMore e ⊎ IsStop e) (b m) (c n)

abbrev pub StopsCarryOver : Type 0
StopsCarryOver = (a b c : ℕ → Shown) → ((n : ℕ) → GoesOn IsStop (a n) (c n)) → Grows b → Same a b → Stopped c b
