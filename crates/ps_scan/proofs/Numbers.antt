-- Digits and the number that they denote.
use Rattle.std.proofs.Common.{◌≡◌, ℕ, suc, ◌+◌, ◌*◌, ◌-◌, ◌<◌, ◌≤◌, [], ◌∷◌, length, drop, get_or, fold, arith}
use Rattle.std.proofs.Common.{drop-cons, subst}
use Rattle.ps_scan.specs.Lexemes.{digits_value}
use Rattle.ps_scan.specs.Tables.{Bytes}

-- more digits make no number less
pub value_grows : (n : ℕ) (bs : Bytes) → n ≤ fold (λ n b. 10 * n + (b - 48)) n bs
value_grows n [] = omega arith
value_grows n (b ∷ bs) = omega (arith, value_grows (10 * n + (b - 48)) bs)

-- the number of the first digits is at most the number of all
pub value_front : (bs : Bytes) (i n : ℕ) → i < length bs → fold (λ n b. 10 * n + (b - 48)) n (drop i bs)
    ≡ digits_value bs
    → 10 * n + (get_or bs i 0 - 48) ≤ digits_value bs
value_front bs i n inside front =
    let step = rw (drop-cons bs i 0 inside) at front in
    subst (λ z. 10 * n + (get_or bs i 0 - 48) ≤ z) step (value_grows (10 * n + (get_or bs i 0 - 48)) (drop (suc i) bs))
