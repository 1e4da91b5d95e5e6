-- The laws of code that replaces other code, stated for callers of this crate.
use Rattle.std.specs.Prelude.{◌≡◌, ℕ}
use Rattle.behavior.specs.Endings.{Stuck}
use Rattle.behavior.specs.Transcripts.{Shown}
use Rattle.behavior.specs.Same.{Same}
use Rattle.tac_code.specs.Meaning.{Code}
use Rattle.tac_code_steps.specs.InTurns.{Setting, shows, ShowsInTurns}
use Rattle.tac_pass.specs.Walk.{ArePassed}
use Rattle.tac_pass_laws.specs.Passed.{IsPassed}

-- code that was made by plans may
abbrev pub PlannedArePassed : Type 0
PlannedArePassed = (old new : Code) → ArePassed old new → IsPassed old new

-- and so may the code itself, if no pass is made
abbrev pub UnchangedArePassed : Type 0
UnchangedArePassed = (code : Code) → IsPassed code code

-- and so may code that may replace such code
abbrev pub PassesCompose : Type 0
PassesCompose = (first second third : Code) → IsPassed first second → IsPassed second third → IsPassed first third

-- If the old code shows a family in turns, whose members are never stuck, the new code's run is the same as the family,
-- and is never stuck.
pub record DoesAs (a : ℕ → Shown) (code : Code) (p : Setting) : Type 0 where
  pub same : Same a (shows code p)
  pub goes_on : (n : ℕ) → (shows code p n).1 ≡ Stuck → ⊥

abbrev pub PassedDoes : Type 0
PassedDoes =
    (a : ℕ → Shown) (old new : Code) (p : Setting) → ((n : ℕ) → (a n).1 ≡ Stuck → ⊥) → ShowsInTurns a old p
    → IsPassed old new → DoesAs a new p
