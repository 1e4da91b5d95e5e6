-- What cannot be.
use Rattle.std.proofs.Common.{◌≡◌, true, false}

pub never : {A : Type 0} → false ≡ true → A
never e = absurd (cc)

pub true_false : {A : Type 0} → true ≡ false → A
true_false e = absurd (cc)
