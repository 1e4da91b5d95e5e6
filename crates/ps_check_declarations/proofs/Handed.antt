-- Answers and refusals, handed on.
use Rattle.std.proofs.Common.{◌≡◌, Result, Ok, Err, sym, ap, ◌∙◌, subst}
use Rattle.std.specs.Prelude.{OnOk, IsErrAnd}
use Rattle.ps_check_judgement.specs.declared.refusal.CheckFault.{CheckFault}
use Rattle.ps_check_judgement.specs.Judged.{Judged, Yes, Told, Answers, ◌>>=◌}
use Rattle.ps_check_judgement.proofs.Lists.{told_bind}

-- what holds whatever is answered
pub in_any_case : {X E : Type 0} (answer : Result X E) (P : Type 0) → P → OnOk answer P
in_any_case (Ok x) P p = p
in_any_case (Err e) P p = tt

-- a refusal says nothing of what is kept
pub kept_refused : {X E : Type 0} (answer : Result X E) (P : Type 0) (Q : E → Type 0) → IsErrAnd answer Q
    → OnOk answer P
kept_refused (Ok x) P Q h = absurd h
kept_refused (Err e) P Q h = tt

-- the same of an equal judgement
pub told_same : {A : Type 0} (e : CheckFault) (i j : Judged A) → i ≡ j → Told e j → Told e i
told_same e i j is told = subst (λ j. Told e j) (sym is) told

-- one more step, after one that is accepted
pub then_told : {A B : Type 0} (e : CheckFault) (j : Judged A) (f : A → Judged B) (a : A) → j ≡ Yes a → Told e (f a)
    → Told e (j >>= f)
then_told e j f a is told = subst (λ j. Told e (j >>= f)) (sym is) told

pub then_is : {A B : Type 0} (j : Judged A) (f : A → Judged B) (a : A) (o : Judged B) → j ≡ Yes a → f a ≡ o
    → (j >>= f) ≡ o
then_is j f a o is e = ap (λ j. j >>= f) is ∙ e

pub then_answers : {X A B : Type 0} (answer : Result X CheckFault) (v : X → B) (j : Judged A) (f : A → Judged B)
    (a : A) → j ≡ Yes a → Answers answer v (f a) → Answers answer v (j >>= f)
then_answers answer v j f a is h = subst (λ j. Answers answer v (j >>= f)) (sym is) h

-- an answer of which more is made
pub answers_more : {X A B : Type 0} (answer : Result X CheckFault) (v : X → A) (k : A → B) (j : Judged A)
    → Answers answer v j → Answers answer (λ x. k (v x)) (j >>= (λ a. Yes (k a)))
answers_more (Ok x) v k j h = ap (λ j. j >>= (λ a. Yes (k a))) h
answers_more (Err e) v k j h = told_bind e j (λ a. Yes (k a)) h
