use Rattle.std.proofs.Common.{◌≡◌, ℕ, List, sym, ap, ◌∙◌, subst}
use Rattle.std.specs.Option.{option_copied}
use Rattle.risc_alloc.specs.Windows.{IsIn}
use Rattle.risc_alloc.proofs.walk.meet.Goals.{in-Some, in-None}
use Rattle.risc_alloc.proofs.walk.meet.Goals as goal

pub returns-then-is_claimed-clause-claimed : goal.returns-then-is_claimed-clause-claimed
returns-then-is_claimed-clause-claimed c =
    λ _ list e seats u held.
    elim c.match-get.branch [
      | in-Some w ↦
          let claimed : IsIn w.in-Some.claim.now u = w.is_within-is_claimed.ensures
          (sym w.is_claimed-is ∙ c.if-is_claimed.true) seats u held in
          let same : w.in-Some.claim.now ≡ list = cc (sym (ap option_copied w.in-Some.is) ∙ c.get.ensures ∙ e) in
          subst (λ (l : List ℕ). IsIn l u) same claimed
      | in-None w ↦ absurd (cc (sym (ap option_copied w.in-None.is) ∙ c.get.ensures ∙ e))
    ]
