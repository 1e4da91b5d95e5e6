-- Two answers as one where the first is there, and three answers as one.
use Rattle.std.proofs.Common.{◌≡◌, Ok, Err, Result, sym, ap, ◌∙◌, subst}
use Rattle.std.specs.Prelude.{IfOk, IfErr}
use Rattle.ps_check_judgement.specs.declared.refusal.CheckFault.{CheckFault}
use Rattle.ps_check_judgement.specs.declared.refusal.CheckFault.TheVariants.{OutOfMemory, Broken}
use Rattle.ps_check_judgement.specs.Refusal.{IsFault}
use Rattle.ps_check_judgement.specs.Judged.{Judged, Yes, ◌>>=◌, Told, Answers, both}
use Rattle.ps_check_judgement.proofs.Lists.{told_bind}
use Rattle.ps_check_judgement.proofs.Impossible.{no_err}

abbrev ok_or : {X : Type 0} → X → Result X CheckFault → X
ok_or d (Ok x) = x
ok_or d (Err e) = d

inside_err : {X : Type 0} (d e : CheckFault) → (let r : Result X CheckFault = Err e in r) ≡ Err d → d ≡ e
inside_err d e q = cc

no_ok : {X : Type 0} (x : X) (e : CheckFault) → (let r : Result X CheckFault = Ok x in r) ≡ Err e → ⊥
no_ok x e q = cc

-- a refusal of the first part, and of what comes after a part that is there
told_by : {A C : Type 0} (d e : CheckFault) (j : Judged A) (h : A → Judged C) → d ≡ e → Told d j → Told e (j >>= h)
told_by d e j h q t = told_bind e j h (subst (λ f. Told f j) q t)

told_behind : {A C : Type 0} (e : CheckFault) (j : Judged A) (a : A) (h : A → Judged C) → j ≡ Yes a → Told e (h a)
    → Told e (j >>= h)
told_behind e j a h q t = subst (λ z. Told e (z >>= h)) (sym q) t

-- ---- the first is there

pub second_told : {B C X Y : Type 0} (a : X) (y : Result Y CheckFault) (g : Y → B) (k : Judged B) (h : B → Judged C)
    (e : CheckFault) → Answers y g k → Err e ≡ both (Ok a) y → Told e (k >>= h)
second_told a (Ok b) g k h e hy q = absurd (no_err (a, b) e q)
second_told a (Err d) g k h e hy q = told_by d e k h (inside_err d e q) hy

pub second_yes : {B X Y : Type 0} (a : X) (y : Result Y CheckFault) (g : Y → B) (k : Judged B) (c : X) (b : Y)
    → Answers y g k → Ok (c, b) ≡ both (Ok a) y → (a ≡ c) × (k ≡ Yes (g b))
second_yes a (Ok z) g k c b hy q =
    let p : (a, z) ≡ (c, b) = ap (ok_or (a, z)) (sym q) in (ap (λ p. p.0) p, hy ∙ ap (λ p. Yes (g p.1)) p)
second_yes a (Err d) g k c b hy q = absurd (no_ok (c, b) d q)

-- ---- three, each of which begins where the one before has ended

module _ {A B C D E X Y Z : Type 0} where
  pub three_told : (x : Result X CheckFault) (y : Result Y CheckFault) (z : Result Z CheckFault) (f : X → A) (g : Y → B)
      (k : Z → C)
      (d1 d2 : D) (m : Judged (A × D)) (l : D → Judged (B × D)) (n : D → Judged C) (h : A × D → B × D → C → Judged E)
      (e : CheckFault) → Answers x (λ v. (f v, d1)) m → Answers y (λ v. (g v, d2)) (l d1) → Answers z k (n d2) → Err e
      ≡ both x (both y z) → Told e (m >>= (λ p. l p.1 >>= (λ q. n q.1 >>= h p q)))
  three_told (Err u) y z f g k d1 d2 m l n h e hx hy hz q = told_by u e m (λ p. l p.1 >>= (λ q. n q.1 >>= h p q))
      (inside_err u e q) hx
  three_told (Ok a) (Err u) z f g k d1 d2 m l n h e hx hy hz q =
      told_behind e m (f a, d1) (λ p. l p.1 >>= (λ q. n q.1 >>= h p q)) hx
      (told_by u e (l d1) (λ q. n q.1 >>= h (f a, d1) q) (inside_err u e q) hy)
  three_told (Ok a) (Ok b) (Err u) f g k d1 d2 m l n h e hx hy hz q =
      told_behind e m (f a, d1) (λ p. l p.1 >>= (λ q. n q.1 >>= h p q)) hx
      (told_behind e (l d1) (g b, d2) (λ q. n q.1 >>= h (f a, d1) q) hy
      (told_by u e (n d2) (h (f a, d1) (g b, d2)) (inside_err u e q) hz))
  three_told (Ok a) (Ok b) (Ok c) f g k d1 d2 m l n h e hx hy hz q = absurd (no_err (a, (b, c)) e q)

  pub three_yes : (x : Result X CheckFault) (y : Result Y CheckFault) (z : Result Z CheckFault) (f : X → A) (g : Y → B)
      (k : Z → C)
      (d1 d2 : D) (m : Judged (A × D)) (l : D → Judged (B × D)) (n : D → Judged C) (h : A × D → B × D → C → Judged E)
      (a : X) (b : Y) (c : Z) → Answers x (λ v. (f v, d1)) m → Answers y (λ v. (g v, d2)) (l d1) → Answers z k (n d2)
      → Ok (a, (b, c)) ≡ both x (both y z) → (m >>= (λ p. l p.1 >>= (λ q. n q.1 >>= h p q))) ≡ h (f a, d1) (g b, d2)
      (k c)
  three_yes (Err u) y z f g k d1 d2 m l n h a b c hx hy hz q = absurd (no_ok (a, (b, c)) u q)
  three_yes (Ok x) (Err u) z f g k d1 d2 m l n h a b c hx hy hz q = absurd (no_ok (a, (b, c)) u q)
  three_yes (Ok x) (Ok y) (Err u) f g k d1 d2 m l n h a b c hx hy hz q = absurd (no_ok (a, (b, c)) u q)
  three_yes (Ok x) (Ok y) (Ok z) f g k d1 d2 m l n h a b c hx hy hz q =
      let p : (x, (y, z)) ≡ (a, (b, c)) = ap (ok_or (x, (y, z))) (sym q) in
      ap (λ w. w >>= (λ p. l p.1 >>= (λ q. n q.1 >>= h p q))) hx
      ∙ ap (λ w. w >>= (λ q. n q.1 >>= h (f x, d1) q)) hy
      ∙ ap (λ w. w >>= h (f x, d1) (g y, d2)) hz
      ∙ ap (λ p. h (f p.0, d1) (g p.1.0, d2) (k p.1.1)) p

-- ---- two as they are passed on

module _ {A B D X Y : Type 0} (f : X → A) (g : Y → B) (d1 d2 : D) (m : Judged (A × D)) (k : D → Judged (B × D)) where
  abbrev Joint : Result (X × Y) CheckFault → Type 0
  Joint r = Answers {A = (A × B) × D} r (λ p. ((f p.0, g p.1), d2))
      (m >>= (λ p. k p.1 >>= (λ q. Yes ((p.0, q.0), q.1))))

  joint : (x : Result X CheckFault) (y : Result Y CheckFault) → Answers {A = A × D} x (λ v. (f v, d1)) m
      → Answers {A = B × D} y (λ v. (g v, d2)) (k d1) → Joint (both x y)
  joint (Err u) y hx hy = told_bind u m (λ p. k p.1 >>= (λ q. Yes ((p.0, q.0), q.1))) hx
  joint (Ok a) (Err u) hx hy = told_behind u m (f a, d1) (λ p. k p.1 >>= (λ q. Yes ((p.0, q.0), q.1))) hx
      (told_bind u (k d1) (λ q. Yes ((f a, q.0), q.1)) hy)
  joint (Ok a) (Ok b) hx hy = ap (λ w. w >>= (λ p. k p.1 >>= (λ q. Yes ((p.0, q.0), q.1)))) hx
      ∙ ap (λ w. w >>= (λ q. Yes ((f a, q.0), q.1))) hy

  pub next_both : (result : Result (X × Y) CheckFault) (x : Result X CheckFault) (y : Result Y CheckFault)
      → Answers {A = A × D} x
      (λ v. (f v, d1)) m → Answers {A = B × D} y (λ v. (g v, d2)) (k d1) → result ≡ both x y → Joint result
  next_both result x y hx hy q = subst Joint (sym q) (joint x y hx hy)

pub both_parts : {X Y : Type 0} (x : Result X CheckFault) (y : Result Y CheckFault) (a : X) (b : Y)
    → Ok (a, b) ≡ both x y → (x ≡ Ok a) × (y ≡ Ok b)
both_parts (Ok x) (Ok y) a b q = let p : (x, y) ≡ (a, b) = ap (ok_or (x, y)) (sym q)
    in (ap (λ p. Ok p.0) p, ap (λ p. Ok p.1) p)
both_parts (Ok x) (Err e) a b q = absurd (no_ok (a, b) e q)
both_parts (Err e) y a b q = absurd (no_ok (a, b) e q)

-- an answer that is put on the heap
pub boxed_answers : {A B P : Type 0} (result : Result P CheckFault) (x : Result A CheckFault) (v : P → A) (f : A → B)
    (j : Judged B) → Answers x f j → IfOk result (λ p. x ≡ Ok (v p)) → IfErr result (λ e. IsFault e → x ≡ Err e)
    → Answers result (λ p. f (v p)) j
boxed_answers (Ok p) x v f j h ok err = subst (λ x. Answers x f j) ok h
boxed_answers (Err OutOfMemory) x v f j h ok err = tt
boxed_answers (Err (Broken rule at)) x v f j h ok err = subst (λ x. Answers x f j) (err tt) h
