-- How large the bits of a word of a set are.
use Rattle.std.proofs.Common.{◌≡◌, ℕ, zero, suc, ◌+◌, ◌*◌, ◌^◌, ◌<◌, ℤ, pos, negsuc, Bool, true, false, not, ◌&&◌}
use Rattle.std.proofs.Common.{nat_le, if◌then◌else◌, Option, Some, None, refl, arith, leb-true}
use Rattle.std.proofs.Math.Nat.{pow-suc}
use Rattle.ps_meaning.specs.Operators.{is_between}
use Rattle.ps_lower_layout.specs.Words.{bits_from}
use Rattle.ps_lower_code.specs.Values.{outside_bits, known_member}

pub bits_below : (n k : ℕ) (s : ℕ → Bool) → bits_from n k s < 2 ^ n
bits_below zero k s = omega arith
bits_below (suc n) k s = go (s k) (bits_below n (suc k) s)
  where
    go : (b : Bool) → bits_from n (suc k) s < 2 ^ n → (if b then 1 else 0) + 2 * bits_from n (suc k) s < 2 ^ suc n
    go true r = let e = pow-suc 2 n in omega (arith, r, e)
    go false r = let e = pow-suc 2 n in omega (arith, r, e)

pub outside_small : (low high : ℤ) (q : ℕ) → outside_bits low high q < 2 ^ 32
unfolding outside_bits
outside_small low high q = let l = bits_below 32 (32 * q) (λ k. not (is_between low (pos k) high)) in omega (arith, l)

-- ---- members that are known

abbrev pub IsMember : Option ℕ → Type 0
IsMember None = Unit {0}
IsMember (Some n) = n < 256

pub known_small : (z : Option ℤ) → IsMember (known_member z)
known_small None = tt
known_small (Some (negsuc n)) = tt
known_small (Some (pos n)) = go (nat_le 0 n) (nat_le n 255) refl
  where
    go : (a b : Bool) → nat_le n 255 ≡ b → IsMember (if a && b then Some n else None)
    go true true e = let l = leb-true n 255 e in omega (arith, l)
    go true false e = tt
    go false b e = tt
