-- What is made of a part, by the answer for the part.
use Rattle.std.proofs.Common.{◌≡◌, List, Ok, Err, Result, sym, subst}
use Rattle.ps_check_judgement.specs.declared.change.Change.{Change}
use Rattle.ps_check_judgement.specs.declared.refusal.CheckFault.{CheckFault}
use Rattle.ps_check_judgement.specs.Judged as j
use Rattle.ps_check_judgement.specs.Judged.{Judged, Yes, Told, Answers}
use Rattle.ps_check_judgement.specs.Changing.{Changing, ◌>>=◌, still}
use Rattle.ps_check_judgement.proofs.Lists.{told_bind}
use Rattle.ps_check_expressions.specs.Carrying.{Carries}
use Rattle.ps_check_expressions.proofs.RoutineLemmas.{still_answers}

module _ {X Y A B : Type 0} (x : Result X CheckFault) (view : X → A) (made : Y → B) (k : A → Judged B) where
  pub carried_err : (e : CheckFault) → x ≡ Err e → Carries x view (Err e) made k
  carried_err e is m before after h = told_bind e (m before) (λ p. still (k p.0) p.1)
      (subst (λ (w : Result X CheckFault). Answers w (λ v. (view v, after)) (m before)) is h)

  pub carried_ok : (v : X) (y : Result Y CheckFault) → x ≡ Ok v → Answers y made (k (view v)) → Carries x view y made k
  carried_ok v y is hy m before after h =
      let h : m before ≡ Yes (view v, after) = subst
      (λ (w : Result X CheckFault). Answers w (λ v. (view v, after)) (m before)) is h in
      subst (λ z. Answers y (λ r. (made r, after)) (j.◌>>=◌ z (λ p. still (k p.0) p.1))) (sym h)
      (still_answers y made (k (view v)) after hy)
