-- Two runs compared; the second goes on where the first may be cut short.
use Rattle.std.proofs.Common.{◌≡◌, ◌⊎◌, inl, inr, ℕ, List, [], ◌++◌, Bool, true, false, cond, refl, sym, ap, ◌∙◌}
use Rattle.std.proofs.Common.{subst, append_assoc, append-nil}
use Rattle.behavior.specs.Endings.{Ending}
use Rattle.ps_meaning.specs.Worlds.{World, Answer, Gives, Ends, Act, and_then}

abbrev pub transcript_of : {A : Type 0} → Answer A → List ℕ
transcript_of (Gives v w) = w.transcript
transcript_of (Ends transcript ending) = transcript

-- b goes on from w's transcript
abbrev pub Grows : {A : Type 0} → World → Answer A → Type 0
Grows w b = (rest : List ℕ) × (transcript_of b ≡ w.transcript ++ rest)

module _ (Cuts : Ending → Type 0) where
  -- a is b, or was cut short on the way to it
  abbrev pub Cut : {A : Type 0} → Answer A → Answer A → Type 0
  Cut a b = (a ≡ b) ⊎ ((ending : Ending) × (out : List ℕ) × (rest : List ℕ) × (a ≡ Ends out ending) × Cuts ending
      × (transcript_of b ≡ out ++ rest))

  pub record Beside {A : Type 0} (w : World) (a b : Answer A) : Type 0 where
    pub cut : Cut a b
    pub grows : Grows w b

  cut_same : {A B : Type 0} (a : Answer A) (f g : A → Act B) → ((v : A) (w : World) → Beside w (f v w) (g v w)) → Cut
      (and_then a f) (and_then a g)
  cut_same (Gives v w) f g h = (h v w).cut
  cut_same (Ends out e) f g h = inl refl

  grow_more : {A B : Type 0} (b : Answer A) (g : A → Act B) → ((v : A) (u : World) → Grows u (g v u)) → (rest : List ℕ)
      × (transcript_of (and_then b g) ≡ transcript_of b ++ rest)
  grow_more (Gives v u) g h = h v u
  grow_more (Ends out e) g h = ([], sym (append-nil out))

  cut_then : {A B : Type 0} (a b : Answer A) (f g : A → Act B) → Cut a b
      → ((v : A) (u : World) → Beside u (f v u) (g v u)) → Cut (and_then a f) (and_then b g)
  cut_then a b f g (inl e) h = subst (λ x. Cut (and_then a f) (and_then x g)) e (cut_same a f g h)
  cut_then a b f g (inr s) h =
      let m = grow_more b g (λ v u. (h v u).grows) in
      inr (
        s.0,
        s.1,
        s.2 ++ m.0,
        ap (λ x. and_then x f) s.3,
        s.4,
        m.1 ∙ ap (λ l. l ++ m.0) s.5
            ∙ append_assoc s.1 s.2 m.0,
      )

  -- one act after another
  pub then_beside : {A B : Type 0} (w : World) (a b : Answer A) (f g : A → Act B) → Beside w a b
      → ((v : A) (u : World) → Beside u (f v u) (g v u)) → Beside w (and_then a f) (and_then b g)
  then_beside w a b f g l h =
      let m = grow_more b g (λ v u. (h v u).grows) in
      record {
        cut = cut_then a b f g l.cut h;
        grows = (l.grows.0 ++ m.0, m.1 ∙ ap (λ t. t ++ m.0) l.grows.1 ∙ append_assoc w.transcript l.grows.0 m.0);
      }

  -- the same answer on both sides, with more of the transcript
  pub more_of : {A : Type 0} (w : World) (a : Answer A) (rest : List ℕ) → transcript_of a ≡ w.transcript ++ rest
      → Beside w a a
  more_of w a rest e = record { cut = inl refl; grows = (rest, e) }

  -- and with the transcript as it was
  pub still : {A : Type 0} (w : World) (a : Answer A) → transcript_of a ≡ w.transcript → Beside w a a
  still w a e = more_of w a [] (e ∙ sym (append-nil w.transcript))

  -- the first is cut short where the second goes on
  pub cut_here : {A : Type 0} (w : World) (ending : Ending) (b : Answer A) → Cuts ending → Grows w b → Beside w
      (Ends w.transcript ending) b
  cut_here w ending b k g = record { cut = inr (ending, w.transcript, g.0, refl, k, g.1); grows = g }

  -- a choice by the same test
  pub choose_beside : {A : Type 0} (t : Bool) (w : World) (f g f' g' : Act A) → Beside w (f w) (f' w) → Beside w (g w)
      (g' w) → Beside w (cond t f g w) (cond t f' g' w)
  choose_beside true w f g f' g' h k = h
  choose_beside false w f g f' g' h k = k
