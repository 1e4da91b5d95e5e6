-- Where each step of the old code is followed by some of the new code's, which turn aside as it does, the new code
-- keeps the old one's runs.
use Rattle.std.proofs.Common.{◌≡◌, ℕ, zero, suc, Bool, false, List, [], refl, ap, ◌∙◌}
use Rattle.behavior.specs.Endings.{Ending, More, Stuck}
use Rattle.behavior.specs.Transcripts.{Shown}
use Rattle.tac_code.specs.Meaning.{Code, State, Step, Goes, Over, fetch, enter, step}
use Rattle.tac_code.specs.Run.{before, after, run}
use Rattle.tac_code_steps.specs.Turns.{turns_aside, one_more_if, behind, turns}
use Rattle.tac_code_steps.specs.InTurns.{Setting, shows, turns_in}
use Rattle.tac_pass.specs.Keeps.{Keeps}

module _ (code : Code) (p : Setting) where
  abbrev pub shown_from : ℕ → State → Shown
  shown_from k s = run code p.frames p.objects p.stack p.heap k s

  abbrev pub turns_from : ℕ → State → ℕ
  turns_from k s = turns code p.frames p.objects p.stack p.heap k s

  abbrev pub step_in : State → Step
  step_in s = step code p.frames p.objects p.stack p.heap s

  abbrev pub aside : State → Bool
  aside s = turns_aside (fetch code s.current.routine s.current.place)

  -- from one state the run comes to another, with one turn if so, else with none
  pub record Reaches (b : Bool) (s t : State) : Type 0 where
    pub by : (k : ℕ) → (j : ℕ) × (shown_from j s ≡ shown_from k t) × (turns_from j s ≡ one_more_if b (turns_from k t))

  -- from a state the run comes to this end
  pub record Ends (b : Bool) (s : State) (shown : Shown) : Type 0 where
    pub by : (j : ℕ) × (shown_from j s ≡ shown) × (turns_from j s ≡ one_more_if b 0)

  pub stays : (s : State) → Reaches false s s
  stays s = record { by = λ k. (k, refl, refl) }

  -- one step that does not turn aside, and then others
  pub first : {b : Bool} (s s1 t : State) → step_in s ≡ Goes s1 → aside s ≡ false → Reaches b s1 t → Reaches b s t
  first {b} s s1 t e f r =
      record {
        by = λ k. (
          suc ((r.by k).0),
          ap (λ x. after x s (shown_from (r.by k).0)) e ∙ (r.by k).1,
          ap (λ c. one_more_if c (behind (step_in s) (turns_from (r.by k).0))) f
              ∙ ap (λ x. behind x (turns_from (r.by k).0)) e ∙ (r.by k).2,
        );
      }

  pub first_ends : {b : Bool} {shown : Shown} (s s1 : State) → step_in s ≡ Goes s1 → aside s ≡ false → Ends b s1 shown
      → Ends b s shown
  first_ends {b} s s1 e f r =
      record {
        by = (
          suc (r.by.0),
          ap (λ x. after x s (shown_from r.by.0)) e ∙ r.by.1,
          ap (λ c. one_more_if c (behind (step_in s) (turns_from r.by.0))) f ∙ ap (λ x. behind x (turns_from r.by.0)) e
              ∙ r.by.2,
        );
      }

  -- one step
  pub goes : (s t : State) → step_in s ≡ Goes t → Reaches (aside s) s t
  goes s t e =
      record {
        by = λ k. (
          suc k,
          ap (λ x. after x s (shown_from k)) e,
          ap (λ x. one_more_if (aside s) (behind x (turns_from k))) e,
        );
      }

  pub ends : (s : State) (e : Ending) → step_in s ≡ Over e → Ends (aside s) s (s.tape.transcript, e)
  ends s e h =
      record {
        by = (1, ap (λ x. after x s (shown_from 0)) h, ap (λ x. one_more_if (aside s) (behind x (turns_from 0))) h);
      }

module _ (old new : Code) (p : Setting) (R : State → State → Type 0) where
  -- what the new code does where the old one makes this step
  abbrev pub Follows : Bool → State → State → Step → Type 0
  Follows b s s' (Goes t) = (t' : State) × R t t' × Reaches new p b s' t'
  Follows b s s' (Over e) = (e ≡ Stuck → ⊥) → Ends new p b s' (s.tape.transcript, e)

  pub record Simulates : Type 0 where
    pub told : (s s' : State) → R s s' → s'.tape.transcript ≡ s.tape.transcript
    pub steps : (s s' : State) → R s s' → Follows (aside old p s) s s' (step_in old p s)

  module _ (sim : Simulates) where
    pub follow : (n : ℕ) (s s' : State) → R s s' → ((shown_from old p n s).1 ≡ Stuck → ⊥) → (m : ℕ)
        × (shown_from new p m s' ≡ shown_from old p n s) × (turns_from new p m s' ≡ turns_from old p n s)
    follow zero s s' r live = (0, ap (λ (t : List ℕ). (t, More)) (sim.told s s' r), refl)
    follow (suc n) s s' r live = onwards (λ t t' r' l. follow n t t' r' l) (step_in old p s) (sim.steps s s' r) live
      where
        onwards : ((t t' : State) → R t t' → ((shown_from old p n t).1 ≡ Stuck → ⊥) → (m : ℕ)
            × (shown_from new p m t' ≡ shown_from old p n t) × (turns_from new p m t' ≡ turns_from old p n t))
            → (x : Step) → Follows (aside old p s) s s' x → ((after x s (shown_from old p n)).1 ≡ Stuck → ⊥)
            → (m : ℕ) × (shown_from new p m s' ≡ after x s (shown_from old p n))
            × (turns_from new p m s' ≡ one_more_if (aside old p s) (behind x (turns_from old p n)))
        onwards again (Goes t) f live =
            let k = again t f.0 f.1 live in let j = f.2.by k.0 in (
              j.0,
              j.1 ∙ k.1,
              j.2 ∙ ap (one_more_if (aside old p s)) k.2,
            )
        onwards again (Over e) f live = (f live).by

    -- the entries of both program blocks: the new one goes where the old one does
    abbrev pub Enters : Step → Step → Type 0
    Enters (Goes t) y = (t' : State) × (y ≡ Goes t') × R t t'
    Enters (Over e) y = (e ≡ Stuck → ⊥) → y ≡ Over e

    abbrev pub entry : Code → Step
    entry code = enter code p.frames p.objects p.stack p.heap 0 [] 0 0 [] (before p.input)

    pub follow_whole : Enters (entry old) (entry new) → (n : ℕ) → ((shows old p n).1 ≡ Stuck → ⊥) → (m : ℕ)
        × (shows new p m ≡ shows old p n) × (turns_in new p m ≡ turns_in old p n)
    follow_whole begins zero live = (0, refl, refl)
    follow_whole begins (suc n) live = from_entry (entry old) begins live
      where
        from_entry : (x : Step) → Enters x (entry new) → ((after x (before p.input) (shown_from old p n)).1 ≡ Stuck → ⊥)
            → (m : ℕ) × (shows new p m ≡ after x (before p.input) (shown_from old p n))
            × (turns_in new p m ≡ behind x (turns_from old p n))
        from_entry (Goes t) f live =
            let k = follow n t f.0 f.2 live in (
              suc k.0,
              ap (λ y. after y (before p.input) (shown_from new p k.0)) f.1 ∙ k.1,
              ap (λ y. behind y (turns_from new p k.0)) f.1 ∙ k.2,
            )
        from_entry (Over e) f live = (
          1,
          ap (λ y. after y (before p.input) (shown_from new p 0))
              (f live),
          ap (λ y. behind y (turns_from new p 0)) (f live),
        )

-- a relation for each setting, in which the new code follows the old one from their entries on
pub simulated_is_kept : (old new : Code) (R : Setting → State → State → Type 0)
    → ((p : Setting) → (sim : Simulates old new p (R p)) × Enters old new p (R p) sim (entry old new p (R p) sim old)
    (entry old new p (R p) sim new)) → Keeps old new
simulated_is_kept old new R h p n live = follow_whole old new p (R p) (h p).0 (h p).1 n live
