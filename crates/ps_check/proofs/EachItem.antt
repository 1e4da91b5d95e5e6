-- Lists whose items all have a property.
use Rattle.std.proofs.Common.{◌≡◌, ℕ, zero, suc, List, [], ◌∷◌, ◌++◌, Some, slice_get, subst}
use Rattle.std.proofs.lemmas.Option.{same_Some}
use Rattle.ps_check_judgement.proofs.Impossible.{none_some}
use Rattle.ps_check.specs.RegionNames.{Each}

pub each_at : {A : Type 0} (P : A → Type 0) (xs : List A) (i : ℕ) (x : A) → Each P xs → slice_get xs i ≡ Some x → P x
each_at P [] i x h e = absurd (none_some e)
each_at P (y ∷ ys) zero x h e = subst P (same_Some y x e) h.0
each_at P (y ∷ ys) (suc i) x h e = each_at P ys i x h.1 e

pub each_append : {A : Type 0} (P : A → Type 0) (xs ys : List A) → Each P xs → Each P ys → Each P (xs ++ ys)
each_append P [] ys h g = g
each_append P (x ∷ xs) ys h g = (h.0, each_append P xs ys h.1 g)
