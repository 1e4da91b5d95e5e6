-- Answers, put together: one part after another, one more instruction, what is left alone.
use Rattle.std.proofs.Common.{◌≡◌, ℕ, suc, ◌≤◌, [], ◌++◌, refl, sym, ap, ◌∙◌, subst, append_assoc, append-nil, arith}
use Rattle.tac_code.specs.declared.code.Value.{Value as Word}
use Rattle.tac_code.specs.Meaning.{State, gives, goes_on, put}
use Rattle.ps_meaning.specs.Worlds.{World, Answer, Gives, Ends, and_then}
use Rattle.tac_code_steps.specs.Runs.{Machine, step_of, Leads, Comes}
use Rattle.tac_code_steps.proofs.Runs.{stay, a_step, ◌>>◌, comes_stops, leads_stops, stops_sooner}
use Rattle.tac_code_steps.proofs.Temporaries.{put_other}
use Rattle.ps_lower_relation.specs.Here.{Setting, machine_of, Work, Activated, Alive, state, Keeps}
use Rattle.ps_lower_relation.specs.Outcomes.{Outcome, Reached, Runs}

-- ---- what is left alone

pub keeps_refl : (d x : ℕ) (w : World) (k : Work) → Keeps d x w k w k
keeps_refl d x w k = record { temporaries = λ i l. refl; scratch = λ i l. refl; grown = ([], sym (append-nil w.made)) }

pub keeps_trans : {d x : ℕ} {w w1 w2 : World} {k k1 k2 : Work} → Keeps d x w k w1 k1 → Keeps d x w1 k1 w2 k2
    → Keeps d x w k w2 k2
keeps_trans {w = w} a b =
    record {
      temporaries = λ i l. b.temporaries i l ∙ a.temporaries i l;
      scratch = λ i l. b.scratch i l ∙ a.scratch i l;
      grown = (
        a.grown.0 ++ b.grown.0,
        b.grown.1 ∙ ap (λ m. m ++ b.grown.0) a.grown.1
            ∙ append_assoc w.made a.grown.0 b.grown.0,
      );
    }

pub keeps_less : {w w' : World} {k k' : Work} (d x e y : ℕ) → d ≤ e → x ≤ y → Keeps e y w k w' k' → Keeps d x w k w' k'
keeps_less d x e y l h a = record {
  temporaries = λ i b. a.temporaries i (omega (arith, l, b));
  scratch = λ i b. a.scratch i (omega (arith, h, b));
  grown = a.grown;
}

-- a temporary that is written
abbrev pub with_temporary : Work → ℕ → Word → Work
with_temporary k t v = record { count = k.count; temporaries = put k.temporaries t v; scratch = k.scratch }

pub keeps_put : (d x : ℕ) (w : World) (k : Work) (t : ℕ) (v : Word) → d ≤ t → Keeps d x w k w (with_temporary k t v)
keeps_put d x w k t v l = record {
  temporaries = λ i b. let ne : i ≡ t → ⊥ = λ e. omega arith in put_other k.temporaries t v i ne;
  scratch = λ i b. refl;
  grown = ([], sym (append-nil w.made));
}

-- ---- answers

pub outcome_then : {A B : Type 0} (m : Machine) (n : ℕ) (s : State) (a : Answer A) (f : A → World → Answer B)
    (Post : A → World → Type 0) (Post' : B → World → Type 0) → Outcome m n s a Post
    → ((v : A) (w : World) → Post v w → Outcome m n s (f v w) Post') → Outcome m n s (and_then a f) Post'
outcome_then m n s (Gives v w) f Post Post' h g = g v w h
outcome_then m n s (Ends out e) f Post Post' h g = h

pub outcome_from : {A : Type 0} {m : Machine} (n : ℕ) (s s' : State) (a : Answer A) (Post Post' : A → World → Type 0)
    → Comes m s s' → Outcome m n s' a Post → ((v : A) (w : World) → Post v w → Post' v w) → Outcome m n s a Post'
outcome_from n s s' (Gives v w) Post Post' l h g = g v w h
outcome_from n s s' (Ends out e) Post Post' l h g = comes_stops l h

pub outcome_after : {A : Type 0} {m : Machine} (n : ℕ) (s s' : State) (a : Answer A) (Post Post' : A → World → Type 0)
    → Leads m s s' → Outcome m n s' a Post → ((v : A) (w : World) → Post v w → Post' v w) → Outcome m (suc n) s a Post'
outcome_after n s s' (Gives v w) Post Post' l h g = g v w h
outcome_after n s s' (Ends out e) Post Post' l h g = leads_stops l h

pub outcome_sooner : {A : Type 0} (m : Machine) (n : ℕ) (s : State) (a : Answer A) (Post : A → World → Type 0)
    → Outcome m (suc n) s a Post → Outcome m n s a Post
outcome_sooner m n s (Gives v w) Post h = h
outcome_sooner m n s (Ends out e) Post h = stops_sooner h

-- ---- runs within an activation

module _ (p : Setting) (n : ℕ) (c : Activated) where
  -- where the code has got to from an earlier place
  pub reached_from : (d x d1 x1 : ℕ) (w w1 : World) (k k1 : Work) (s s1 : State) (pc' : ℕ)
      (R R' : World → Work → Type 0) (w' : World) → d ≤ d1 → x ≤ x1 → Comes (machine_of p) s s1 → Keeps d x w k w1 k1
      → Reached p c d1 x1 w1 k1 s1 pc' R w' → ((k' : Work) → Keeps d1 x1 w1 k1 w' k' → R w' k' → R' w' k')
      → Reached p c d x w k s pc' R' w'
  reached_from d x d1 x1 w w1 k k1 s s1 pc' R R' w' ld lx l a r g =
      record {
        work = r.work;
        alive = r.alive;
        keeps = keeps_trans a (keeps_less d x d1 x1 ld lx r.keeps);
        comes = l >> r.comes;
        result = g r.work r.keeps r.result;
      }

  -- one part after another, where the second may know what the first left
  pub runs_bind : {A B : Type 0} (d x d0 x0 d1 x1 : ℕ) (w : World) (k : Work) (pc mid pc' : ℕ) (a : Answer A)
      (f : A → World → Answer B) (R : A → World → Work → Type 0) (R' : B → World → Work → Type 0)
      → d ≤ d0 → x ≤ x0 → d ≤ d1 → x ≤ x1
      → Runs p n c d0 x0 w k pc mid a R
      → ((v : A) (w1 : World) (k1 : Work) → Alive p c w1 k1 → Keeps d0 x0 w k w1 k1 → R v w1 k1
      → Runs p n c d1 x1 w1 k1 mid pc' (f v w1) R')
      → Runs p n c d x w k pc pc' (and_then a f) R'
  runs_bind d x d0 x0 d1 x1 w k pc mid pc' a f R R' l0 h0 l1 h1 first then_ =
      outcome_then (machine_of p) n (state p c w k pc) a f
      (λ v w1. Reached p c d0 x0 w k (state p c w k pc) mid (R v) w1)
      (λ v w'. Reached p c d x w k (state p c w k pc) pc' (R' v) w') first
      (λ v w1 r. outcome_from n (state p c w k pc) (state p c w1 r.work mid) (f v w1)
      (λ u w'. Reached p c d1 x1 w1 r.work (state p c w1 r.work mid) pc' (R' u) w')
      (λ u w'. Reached p c d x w k (state p c w k pc) pc' (R' u) w') r.comes
      (then_ v w1 r.work r.alive r.keeps r.result)
      (λ u w' z. reached_from d x d1 x1 w w1 k r.work (state p c w k pc) (state p c w1 r.work mid) pc' (R' u)
      (R' u) w' l1 h1 r.comes (keeps_less d x d0 x0 l0 h0 r.keeps) z (λ k' a' y. y)))

  -- the same result, stated otherwise
  pub runs_map : {A : Type 0} (d x d1 x1 : ℕ) (w : World) (k : Work) (pc pc' : ℕ) (a : Answer A)
      (R R' : A → World → Work → Type 0) → d ≤ d1 → x ≤ x1 → Runs p n c d1 x1 w k pc pc' a R
      → ((v : A) (w' : World) (k' : Work) → Keeps d1 x1 w k w' k' → R v w' k' → R' v w' k')
      → Runs p n c d x w k pc pc' a R'
  runs_map d x d1 x1 w k pc pc' a R R' l h r g =
      outcome_from n (state p c w k pc) (state p c w k pc) a
      (λ v w'. Reached p c d1 x1 w k (state p c w k pc) pc' (R v) w')
      (λ v w'. Reached p c d x w k (state p c w k pc) pc' (R' v) w') (stay (state p c w k pc)) r
      (λ v w' z. reached_from d x d1 x1 w w k k (state p c w k pc) (state p c w k pc) pc' (R v) (R' v) w' l h
      (stay (state p c w k pc)) (keeps_refl d x w k) z (g v w'))

  -- what follows when the code has got from one place to another
  pub runs_from : {A : Type 0} (d x : ℕ) (w w1 : World) (k k1 : Work) (pc mid pc' : ℕ) (a : Answer A)
      (R : A → World → Work → Type 0) → Comes (machine_of p) (state p c w k pc) (state p c w1 k1 mid)
      → Keeps d x w k w1 k1 → Runs p n c d x w1 k1 mid pc' a R → Runs p n c d x w k pc pc' a R
  runs_from d x w w1 k k1 pc mid pc' a R l kept r =
      outcome_from n (state p c w k pc) (state p c w1 k1 mid) a
      (λ v w'. Reached p c d x w1 k1 (state p c w1 k1 mid) pc' (R v) w')
      (λ v w'. Reached p c d x w k (state p c w k pc) pc' (R v) w') l r
      (λ v w' z. reached_from d x d x w w1 k k1 (state p c w k pc) (state p c w1 k1 mid) pc' (R v) (R v) w'
      (omega arith) (omega arith) l kept z (λ k' a' y. y))

  -- nothing is done
  pub here : (d x : ℕ) (w : World) (k : Work) (pc pc' : ℕ) (R : World → Work → Type 0) → pc ≡ pc' → Alive p c w k
      → R w k → Reached p c d x w k (state p c w k pc) pc' R w
  here d x w k pc pc' R e alive r = record {
    work = k;
    alive = alive;
    keeps = keeps_refl d x w k;
    comes = subst (λ q. Comes (machine_of p) (state p c w k pc) (state p c w k q)) e (stay (state p c w k pc));
    result = r;
  }

  -- one instruction that writes a temporary
  pub gives_word : (d x : ℕ) (w : World) (k : Work) (pc pc' t : ℕ) (v : Word) (R : World → Work → Type 0) → step_of
      (machine_of p) (state p c w k pc) ≡ gives t v (state p c w k pc) → suc pc ≡ pc' → d ≤ t → Alive p c w k → R w
      (with_temporary k t v) → Reached p c d x w k (state p c w k pc) pc' R w
  gives_word d x w k pc pc' t v R h e l alive r =
      record {
        work = with_temporary k t v;
        alive = record { holds = alive.holds; stands = alive.stands; room = alive.room };
        keeps = keeps_put d x w k t v l;
        comes = subst (λ q. Comes (machine_of p) (state p c w k pc) (state p c w (with_temporary k t v) q)) e
            (a_step (state p c w k pc) (state p c w (with_temporary k t v) (suc pc)) h);
        result = r;
      }

  -- one instruction that only goes on, and one that goes to another place
  pub passes : (d x : ℕ) (w : World) (k : Work) (pc pc' : ℕ) (R : World → Work → Type 0) → step_of (machine_of p)
      (state p c w k pc) ≡ goes_on (state p c w k pc) → suc pc ≡ pc' → Alive p c w k → R w k → Reached p c d x w k
      (state p c w k pc) pc' R w
  passes d x w k pc pc' R h e alive r = record {
    work = k;
    alive = alive;
    keeps = keeps_refl d x w k;
    comes = subst (λ q. Comes (machine_of p) (state p c w k pc) (state p c w k q)) e
        (a_step (state p c w k pc) (state p c w k (suc pc)) h);
    result = r;
  }

  -- one instruction that writes a temporary, and what follows
  pub runs_word : {A : Type 0} (d x : ℕ) (w : World) (k : Work) (pc mid pc' t : ℕ) (v : Word) (a : Answer A)
      (R : A → World → Work → Type 0) → step_of (machine_of p) (state p c w k pc) ≡ gives t v (state p c w k pc)
      → suc pc ≡ mid → d ≤ t → Alive p c w k → (Alive p c w (with_temporary k t v) → Runs p n c d x w
      (with_temporary k t v) mid pc' a R) → Runs p n c d x w k pc pc' a R
  runs_word d x w k pc mid pc' t v a R h e l alive r =
      runs_from d x w w k (with_temporary k t v) pc mid pc' a R
      (subst (λ q. Comes (machine_of p) (state p c w k pc) (state p c w (with_temporary k t v) q)) e
      (a_step (state p c w k pc) (state p c w (with_temporary k t v) (suc pc)) h)) (keeps_put d x w k t v l)
      (r (record { holds = alive.holds; stands = alive.stands; room = alive.room }))

  -- the value is that of the answer
  pub runs_told : {A : Type 0} (d x : ℕ) (w : World) (k : Work) (pc pc' : ℕ) (a : Answer A)
      (R : A → World → Work → Type 0) → Runs p n c d x w k pc pc' a R → Runs p n c d x w k pc pc' a
      (λ v w' k'. R v w' k' × ((v0 : A) (w0 : World) → a ≡ Gives v0 w0 → v ≡ v0))
  runs_told {A} d x w k pc pc' (Gives v w1) R r = record {
    work = r.work;
    alive = r.alive;
    keeps = r.keeps;
    comes = r.comes;
    result = (r.result, λ v0 w0 e. ap (λ y. elim y as (λ z. A) [ Gives u w2 ↦ u | Ends out en ↦ v ]) e);
  }
  runs_told d x w k pc pc' (Ends out en) R r = r
