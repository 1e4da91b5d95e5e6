-- What is told first.
use Rattle.std.proofs.Common.{◌≡◌, List, [], ◌∷◌, ◌++◌, refl, subst, sym}
use Rattle.ps_build.specs.declared.refusal.Refusal.{Refusal}
use Rattle.ps_diagnostic.specs.declared.Diagnostic.{Diagnostic}
use Rattle.ps_advise.specs.Trials.{Begins, MayBegin, Reports}

module _ (refusal : Refusal) where
  pub push_begins : (xs ys : List Diagnostic) (x : Diagnostic) → ys ≡ xs ++ x ∷ [] → MayBegin refusal xs
      → (xs ≡ [] → Reports refusal x) → Begins refusal ys
  push_begins [] ys x e may named = subst (Begins refusal) (sym e) (named refl)
  push_begins (y ∷ xs) ys x e may named = subst (Begins refusal) (sym e) may

  pub none_begun : (xs : List Diagnostic) → xs ≡ [] → MayBegin refusal xs
  none_begun xs e = subst (MayBegin refusal) (sym e) tt
