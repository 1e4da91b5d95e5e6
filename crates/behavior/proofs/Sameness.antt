-- Sameness of families: it composes, passes through functions, and has a converse where one family grows.
use Rattle.std.proofs.Common.{◌≡◌, ◌⊎◌, inl, inr, ℕ, ◌≤◌, List, ◌++◌, refl, sym, ap, subst, ◌∙◌, append_assoc, arith}
use Rattle.behavior.specs.Endings.{IsMore, IsStop}
use Rattle.behavior.specs.Transcripts.{Shown, written, GoesOn}
use Rattle.behavior.specs.Same.{Same, Grows}
use Rattle.behavior.specs.Laws.{Stopped}

pub same_reflexive : {A : Type 0} → (a : ℕ → A) → Same a a
same_reflexive a = λ n. (n, omega arith, refl)

pub same_composes : {A : Type 0} → (a b c : ℕ → A) → Same a b → Same b c → Same a c
same_composes a b c f g =
    λ n. let p : n ≤ (f n).0 = (f n).1 in let q : (f n).0 ≤ (g (f n).0).0 = (g (f n).0).1 in let r : n ≤
    (g (f n).0).0 = omega arith in ((g (f n).0).0, r, (g (f n).0).2 ∙ (f n).2)

-- what both show alike
pub same_through : {A B : Type 0} → (f : A → B) (a b : ℕ → A) → Same a b → Same (λ n. f (a n)) (λ n. f (b n))
same_through f a b h = λ n. ((h n).0, (h n).1, ap f (h n).2)

pub same_is_written : (a b : ℕ → Shown) → Same a b → Same (λ n. written (a n)) (λ n. written (b n))
same_is_written a b h = same_through written a b h

pub same_has_converse : (a b : ℕ → Shown) → Grows b → Same a b → (m : ℕ) → (n : ℕ) × GoesOn IsMore (b m) (a n)
same_has_converse a b g h m = (m, subst (λ (x : Shown). GoesOn IsMore (b m) x) (h m).2 (g m (h m).0 (h m).1))

-- a run that has ended does not go on
ended : (x y : Shown) → GoesOn IsMore x y → (IsMore x.1 → ⊥) → y ≡ x
ended x y (inl e) over = sym e
ended x y (inr s) over = absurd (over s.0)

pub same_ends_alike : (a b : ℕ → Shown) → Grows b → Same a b → (m : ℕ) → (IsMore (b m).1 → ⊥) → (n : ℕ) × (a n ≡ b m)
same_ends_alike a b g h m over = let c = same_has_converse a b g h m in (c.0, ended (b m) (a c.0) c.1 over)

-- what breaks off partway goes on to whatever the whole goes on to
cut_short : (x y z : Shown) → GoesOn IsMore x y → GoesOn IsStop y z → GoesOn (λ e. IsMore e ⊎ IsStop e) x z
cut_short x y z (inl e) (inl f) = inl (e ∙ f)
cut_short x y z (inl e) (inr s) = subst (λ (u : Shown). GoesOn (λ e. IsMore e ⊎ IsStop e) u z) (sym e)
    (inr (inr s.0, s.1))
cut_short x y z (inr r) (inl f) = subst (λ (u : Shown). GoesOn (λ e. IsMore e ⊎ IsStop e) x u) f (inr (inl r.0, r.1))
cut_short x y z (inr r) (inr s) =
    inr (inl r.0, (r.1.0 ++ s.1.0, s.1.1 ∙ ap (λ (t : List ℕ). t ++ s.1.0) r.1.1 ∙ append_assoc x.0 r.1.0 s.1.0))

pub stops_carry_over : (a b c : ℕ → Shown) → ((n : ℕ) → GoesOn IsStop (a n) (c n)) → Grows b → Same a b → Stopped c b
stops_carry_over a b c stops g h = record {
  comes = λ n. ((h n).0, subst (λ (x : Shown). GoesOn IsStop x (c n)) (sym (h n).2) (stops n));
  shows = λ m. let back = same_has_converse a b g h m
      in (back.0, cut_short (b m) (a back.0) (c back.0) back.1 (stops back.0));
}
