-- The laws of runs of three-address code, stated for callers of this crate.
use Rattle.std.specs.Prelude.{ℕ, List}
use Rattle.behavior.specs.Same.{Grows}
use Rattle.tac_code.specs.Meaning.{Code}
use Rattle.tac_code.specs.Run.{tac_run}

-- with more instructions a run that has ended stays as it is, including its open calls, and one that has not goes on
abbrev pub RunGrows : Type 0
RunGrows =
    (code : Code) (F G : ℕ → ℕ) (S H : ℕ) (input : List ℕ) → Grows (tac_run code F G S H input)
