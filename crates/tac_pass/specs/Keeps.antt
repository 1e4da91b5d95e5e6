-- What a pass keeps. The new code may be shorter, so its count of instructions says nothing; that of its turns does.
use Rattle.std.specs.Prelude.{◌≡◌, ℕ}
use Rattle.behavior.specs.Endings.{Stuck}
use Rattle.tac_code.specs.Meaning.{Code}
use Rattle.tac_code_steps.specs.InTurns.{Setting, shows, turns_in}

-- Whatever the old code shows, unless it is stuck, the new one shows after as many turns: under the same costs and
-- budgets, on the same input.
abbrev pub Keeps : (old new : Code) → Type 0
Keeps old new =
    (p : Setting) (n : ℕ) → ((shows old p n).1 ≡ Stuck → ⊥)
    → (m : ℕ) × (shows new p m ≡ shows old p n) × (turns_in new p m ≡ turns_in old p n)
