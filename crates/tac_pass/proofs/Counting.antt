-- What is kept composes.
use Rattle.std.proofs.Common.{◌≡◌, ℕ, ◌≤◌, sym, ap, ◌∙◌, subst}
use Rattle.behavior.specs.Endings.{Stuck, IsMore}
use Rattle.behavior.specs.Transcripts.{Shown}
use Rattle.tac_code.specs.Meaning.{Code}
use Rattle.tac_code_steps.specs.InTurns.{Setting, shows, turns_in, ShowsInTurns}
use Rattle.tac_pass.specs.Keeps.{Keeps}

pub keeping_composes : (a : ℕ → Shown) (old new : Code) (p : Setting) → ((n : ℕ) → (a n).1 ≡ Stuck → ⊥) → Keeps old new
    → ShowsInTurns a old p → ShowsInTurns a new p
keeping_composes a old new p goes keeps shown n =
    put_behind (shown n).0 (shown n).1 (shown n).2
  where
    put_behind : (m : ℕ) → shows old p m ≡ a n → (IsMore (a n).1 → n ≤ turns_in old p m) → (k : ℕ)
        × (shows new p k ≡ a n) × (IsMore (a n).1 → n ≤ turns_in new p k)
    put_behind m e l =
        let k = keeps p m (λ stuck. goes n (ap (λ (x : Shown). x.1) (sym e) ∙ stuck)) in
        (k.0, k.1 ∙ e, λ more. subst (λ t. n ≤ t) (sym k.2) (l more))
