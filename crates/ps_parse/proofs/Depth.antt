-- A recursion on a depth that is not used up.
use Rattle.std.proofs.Common.{◌≡◌, ℕ, suc, ◌-◌, ◌<◌, ap, ◌∙◌, arith}

pub deeper : {X : Type 0} {x : X} (f : ℕ → X) (n : ℕ) → 0 < n → f (suc (n - 1)) ≡ x → f n ≡ x
deeper f n some e = let d : n ≡ suc (n - 1) = omega arith in ap f d ∙ e
