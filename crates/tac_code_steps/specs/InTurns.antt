-- Whole runs with their turns counted. Code that a pass makes shorter takes fewer instructions and as many turns.
use Rattle.std.specs.Prelude.{◌≡◌, ℕ, ◌≤◌, List}
use Rattle.behavior.specs.Endings.{IsMore}
use Rattle.behavior.specs.Transcripts.{Shown}
use Rattle.tac_code.specs.Meaning.{Code}
use Rattle.tac_code.specs.Run.{tac_run}
use Rattle.tac_code_steps.specs.Turns.{tac_turns}

-- what code costs and what it may, and its input
pub record Setting : Type 0 where
  pub frames : ℕ → ℕ
  pub objects : ℕ → ℕ
  pub stack : ℕ
  pub heap : ℕ
  pub input : List ℕ

abbrev pub shows : Code → Setting → ℕ → Shown
shows code p n = tac_run code p.frames p.objects p.stack p.heap p.input n

abbrev pub turns_in : Code → Setting → ℕ → ℕ
turns_in code p n = tac_turns code p.frames p.objects p.stack p.heap p.input n

-- The code shows whatever the family does; if that has come to n without an end, the code has turned aside at least n
-- times.
abbrev pub ShowsInTurns : (ℕ → Shown) → Code → Setting → Type 0
ShowsInTurns a code p =
    (n : ℕ) → (m : ℕ) × (shows code p m ≡ a n) × (IsMore (a n).1 → n ≤ turns_in code p m)
