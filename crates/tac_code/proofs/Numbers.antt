-- Tests of numbers.
use Rattle.std.proofs.Common.{◌≡◌, ℕ, suc, ◌*◌, ◌/◌, true, false, ℤ, ◌≤ℤ◌, nat_eq, nat_lt, int_lt, refl, eq-eqb, arith}
use Rattle.std.proofs.lemmas.Int.{ints}
use Rattle.std.proofs.lemmas.Bool.Decides.{nat_tests}

pub eq_same : (n : ℕ) → nat_eq n n ≡ true
eq_same n = eq-eqb n n refl

pub not_zero : (m : ℕ) → nat_eq (suc m) 0 ≡ false
not_zero m = grind (arith, nat_tests)

pub none_below : (m : ℕ) → nat_lt m 0 ≡ false
none_below m = grind arith

pub at_least : (low x : ℤ) → int_lt x low ≡ false → low ≤ℤ x
at_least low x e = grind (arith, ints)

-- the number of words of so many bytes
pub quarter : (n : ℕ) → 4 * n / 4 ≡ n
quarter n = omega arith
