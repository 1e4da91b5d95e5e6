-- What cannot be.
use Rattle.std.proofs.Common.{◌≡◌, true, false, Option, Some, None, Ok, Err, Result}
use Rattle.ps_check_judgement.specs.declared.refusal.CheckFault.{CheckFault}

pub never : {A : Type 0} → false ≡ true → A
never e = absurd (cc)

pub none_some : {A : Type 0} {x : A} → (let n : Option A = None in n) ≡ Some x → ⊥
none_some q = cc

pub no_err : {X : Type 0} (x : X) (e : CheckFault) → (let r : Result X CheckFault = Err e in r) ≡ Ok x → ⊥
no_err x e q = cc
