-- Two answers as one, where one is refused.
use Rattle.std.proofs.Common.{◌≡◌, Ok, Err, Result, refl, sym, ap, subst}
use Rattle.std.specs.Prelude.{IsErrAnd}
use Rattle.ps_check_judgement.specs.declared.refusal.CheckFault.{CheckFault}
use Rattle.ps_check_judgement.specs.Judged.{Judged, Yes, ◌>>=◌, Told, Answers, both}
use Rattle.ps_check_judgement.proofs.Lists.{told_bind, handed_on}
use Rattle.ps_check_judgement.proofs.Impossible.{no_err}

inside_err : {X : Type 0} (d e : CheckFault) → (let r : Result X CheckFault = Err e in r) ≡ Err d → d ≡ e
inside_err d e q = cc

-- a refusal of the whole, if the first part is judged to that
first_told : {A C : Type 0} (d e : CheckFault) (j : Judged A) (k : A → Judged C) → d ≡ e → Told d j → Told e (j >>= k)
first_told d e j k q h = told_bind e j k (subst (λ f. Told f j) q h)

module _ {A B C X Y : Type 0} where
  pub pair_told : (x : Result X CheckFault) (y : Result Y CheckFault) (f : X → A) (g : Y → B) (j : Judged A)
      (k : Judged B) (h : A → B → Judged C) (e : CheckFault) → Answers x f j → Answers y g k → Err e ≡ both x y → Told e
      (j >>= (λ a. k >>= h a))
  pair_told (Err d) y f g j k h e hx hy q = first_told d e j (λ a. k >>= h a) (inside_err d e q) hx
  pair_told (Ok a) (Err d) f g j k h e hx hy q = subst (λ z. Told e (z >>= (λ a. k >>= h a))) (sym hx)
      (first_told d e k (h (f a)) (inside_err d e q) hy)
  pair_told (Ok a) (Ok b) f g j k h e hx hy q = absurd (no_err (a, b) e q)

  -- the same, passed on
  pub pair_handed : {V : Type 0} (result : Result V CheckFault) (view : V → C) (x : Result X CheckFault)
      (y : Result Y CheckFault)
      (f : X → A) (g : Y → B) (j : Judged A) (k : Judged B) (h : A → B → Judged C) (e : CheckFault) → IsErrAnd result
      (λ z. z ≡ e) → Answers x f j → Answers y g k → Err e ≡ both x y → Answers result view (j >>= (λ a. k >>= h a))
  pair_handed result view x y f g j k h e r hx hy q = handed_on result view (j >>= (λ a. k >>= h a)) e r
      (pair_told x y f g j k h e hx hy q)

-- for parts that pass a state along: the second begins where the first has ended
module _ {A B C D X Y : Type 0} where
  pub next_told : (x : Result X CheckFault) (y : Result Y CheckFault) (f : X → A) (g : Y → B) (d : D)
      (j : Judged (A × D))
      (k : D → Judged B) (h : A × D → B → Judged C) (e : CheckFault) → Answers x (λ v. (f v, d)) j → Answers y g (k d)
      → Err e ≡ both x y → Told e (j >>= (λ p. k p.1 >>= h p))
  next_told (Err z) y f g d j k h e hx hy q = first_told z e j (λ p. k p.1 >>= h p) (inside_err z e q) hx
  next_told (Ok a) (Err z) f g d j k h e hx hy q = subst (λ w. Told e (w >>= (λ p. k p.1 >>= h p))) (sym hx)
      (first_told z e (k d) (h (f a, d)) (inside_err z e q) hy)
  next_told (Ok a) (Ok b) f g d j k h e hx hy q = absurd (no_err (a, b) e q)

-- what changes nothing
pub still_answers : {A D X : Type 0} (x : Result X CheckFault) (f : X → A) (q : Judged A) (d : D) → Answers x f q
    → Answers {A = A × D} x (λ v. (f v, d)) (q >>= (λ a. Yes (a, d)))
still_answers (Ok v) f q d h = ap (λ z. z >>= (λ a. Yes (a, d))) h
still_answers (Err e) f q d h = told_bind e q (λ a. Yes (a, d)) h
