-- What the operators give for numbers that are in range.
use Rattle.std.proofs.Common.{◌≡◌, ℕ, zero, suc, ◌+◌, ◌-◌, ◌*◌, ◌/◌, ◌%◌, ◌^◌, ◌<◌, ◌≤◌, ℤ, pos, negsuc, neg_ℤ, ◌-ℤ◌}
use Rattle.std.proofs.Common.{Bool, true, false, not, nat_lt, if◌then◌else◌, refl, sym, ap, ◌∙◌, arith, lt-ltb}
use Rattle.std.proofs.Common.{ltb-true, ltb-false}
use Rattle.std.proofs.Math.Nat.{div-eq_of_lt, div-le_self}
use Rattle.std.proofs.lemmas.Int.{ints}
use Rattle.std.proofs.lemmas.Grind.{and_numeral}
use Rattle.std.proofs.lemmas.Bool.{le-ltb}
use Rattle.tac_code.specs.declared.code.Operator.TheVariants.{Subtract, Multiply, Divide}
use Rattle.tac_code.specs.declared.code.BitOperator.TheVariants.{And, Plus}
use Rattle.tac_code.specs.declared.code.Relation.TheVariants.{LessEqual, GreaterEqual}
use Rattle.tac_code.specs.Numbers.{within, computed, compared, bits, word_of, number_of, Gives, Fails}
use Rattle.tac_code.specs.declared.code.TheConstants.{NUMBER_LIMIT}

pub gives_natural : (n : ℕ) → n < NUMBER_LIMIT → within 0 (pos n) ≡ Gives (pos n)
gives_natural n l = ap (λ b. if b then Gives (pos n) else Fails 0) (lt-ltb n NUMBER_LIMIT l)

pub gives_negative : (n : ℕ) → n < NUMBER_LIMIT → within 0 (negsuc n) ≡ Gives (negsuc n)
gives_negative n l = ap (λ b. if b then Gives (negsuc n) else Fails 0) (lt-ltb n NUMBER_LIMIT l)

pub difference : (w n : ℕ) → n ≤ w → w < NUMBER_LIMIT → computed Subtract 0 (pos w) (pos n) ≡ Gives (pos (w - n))
difference w n l h = let e : pos w -ℤ pos n ≡ pos (w - n) = omega (arith, ints) in ap (within 0) e ∙ gives_natural
    (w - n) (omega arith)

pub shortfall : (w n : ℕ) → w < n → n < NUMBER_LIMIT → computed Subtract 0 (pos w) (pos n) ≡ Gives (negsuc (n - suc w))
shortfall w n l h = let e : pos w -ℤ pos n ≡ negsuc (n - suc w) = omega (arith, ints) in ap (within 0) e
    ∙ gives_negative (n - suc w) (omega arith)

pub one_less : (k : ℕ) → suc k < NUMBER_LIMIT → computed Subtract 0 (pos (suc k)) (pos 1) ≡ Gives (pos k)
one_less k l = let e : pos (suc k) -ℤ pos 1 ≡ pos k = omega (arith, ints) in ap (within 0) e ∙ gives_natural k
    (omega arith)

-- ---- sums modulo 2 ^ 32

number_below : (n : ℕ) → n < NUMBER_LIMIT → number_of n ≡ pos n
number_below n l = ap (λ b. if b then pos n else negsuc (2 ^ 32 - suc n)) (lt-ltb n NUMBER_LIMIT l)

pub counted_down : (w n k : ℕ) → w ≡ n + suc k → w < NUMBER_LIMIT → bits Plus (pos w) (negsuc k) ≡ pos n
counted_down w n k e l =
    let m : (w + (2 ^ 32 - suc k)) % 2 ^ 32 ≡ n = omega (arith, e, l) in
    ap number_of m ∙ number_below n (omega (arith, e, l))

pub counted_up : (n : ℕ) → suc n < NUMBER_LIMIT → bits Plus (pos n) (pos 1) ≡ pos (suc n)
counted_up n l =
    let m : (n + 1) % 2 ^ 32 ≡ suc n = omega (arith, l) in
    ap number_of m ∙ number_below (suc n) l

-- ---- low bits

pub low_byte : (x : ℤ) → bits And x (pos 255) ≡ pos (word_of x % 256)
low_byte x = ap number_of (and_numeral (word_of x) 254 refl) ∙ number_below (word_of x % 256) (omega arith)

-- whether a number of bytes is one of this many pairs of words
pub low_bits : (w r : ℕ) → w % 8 ≡ r → r < 8 → bits And (pos w) (pos 7) ≡ pos r
low_bits w r e l = ap number_of (and_numeral w 6 refl ∙ e) ∙ number_below r (omega arith)

-- ---- two at a time

abbrev pub twice : ℕ → ℕ
twice zero = zero
twice (suc k) = suc (suc (twice k))

pub twice_is : (k : ℕ) → twice k ≡ 2 * k
twice_is zero = refl
twice_is (suc k) = let e = twice_is k in omega (arith, e)

-- this many twos, and one more or none
pub halves : (n : ℕ) → (odd : Bool) × (k : ℕ) × (n ≡ (if odd then suc (twice k) else twice k))
halves zero = (false, zero, refl)
halves (suc n) = go (halves n)
  where
    go : ((odd : Bool) × (k : ℕ) × (n ≡ (if odd then suc (twice k) else twice k))) → (odd : Bool) × (k : ℕ)
        × (suc n ≡ (if odd then suc (twice k) else twice k))
    go (true, k, e) = (false, suc k, ap suc e)
    go (false, k, e) = (true, k, ap suc e)

-- ---- numbers that are not positive, by their absolute values

abbrev pub minus : ℕ → ℤ
minus n = neg_ℤ (pos n)

gives_minus : (n : ℕ) → n ≤ NUMBER_LIMIT → within 0 (minus n) ≡ Gives (minus n)
gives_minus zero l = refl
gives_minus (suc n) l = gives_negative n (omega arith)

pub negated : (n : ℕ) → n ≤ NUMBER_LIMIT → computed Subtract 0 (pos 0) (pos n) ≡ Gives (minus n)
negated zero l = refl
negated (suc n) l = let e : pos 0 -ℤ pos (suc n) ≡ negsuc n = omega (arith, ints) in ap (within 0) e ∙ gives_negative n
    (omega arith)

pub divided : (n p : ℕ) → 0 < p → n ≤ NUMBER_LIMIT → computed Divide 0 (minus n) (pos p) ≡ Gives (minus (n / p))
divided n zero l h = absurd (omega arith)
divided zero (suc p) l h = let e : 0 / suc p ≡ 0 = div-eq_of_lt l in ap (λ q. within 0 (pos q)) e
    ∙ ap (λ q. Gives (minus q)) (sym e)
divided (suc n) (suc p) l h = let m = div-le_self (suc n) (suc p) in gives_minus (suc n / suc p) (omega (arith, m))

pub a_tenth : (p : ℕ) → p < NUMBER_LIMIT → computed Divide 0 (pos p) (pos 10) ≡ Gives (pos (p / 10))
a_tenth p l = gives_natural (p / 10) (omega arith)

pub ten_times : (p : ℕ) → p * 10 < NUMBER_LIMIT → computed Multiply 0 (pos p) (pos 10) ≡ Gives (pos (p * 10))
ten_times p l = gives_natural (p * 10) l

pub digit_of : (d : ℕ) → d < 10 → computed Subtract 0 (pos 48) (minus d) ≡ Gives (pos (48 + d))
digit_of zero l = refl
digit_of (suc d) l = let e : pos 48 -ℤ negsuc d ≡ pos (48 + suc d) = omega (arith, ints) in ap (within 0) e
    ∙ gives_natural (48 + suc d) (omega arith)

pub multiplied : (d p : ℕ) → d * p ≤ NUMBER_LIMIT → computed Multiply 0 (minus d) (pos p) ≡ Gives (minus (d * p))
multiplied zero p l = let e : 0 * p ≡ 0 = omega arith in ap (λ q. within 0 (pos q)) e ∙ ap (λ q. Gives (minus q))
    (sym e)
multiplied (suc d) p l = gives_minus (suc d * p) l

pub what_is_left : (n k : ℕ) → k ≤ n → n ≤ NUMBER_LIMIT → computed Subtract 0 (minus n) (minus k)
    ≡ Gives (minus (n - k))
what_is_left n k l h = ap (within 0) (same n k l) ∙ gives_minus (n - k) (omega arith)
  where
    zero_less : (m : ℕ) → m ≡ 0 → pos 0 ≡ minus m
    zero_less m e = ap minus (sym e)

    less : (a b m : ℕ) → m + b ≡ a → negsuc a -ℤ negsuc b ≡ minus m
    less a b zero e = omega (arith, ints)
    less a b (suc m) e = omega (arith, ints)

    whole : (n m : ℕ) → m ≡ suc n → negsuc n -ℤ pos 0 ≡ minus m
    whole n zero e = absurd (omega arith)
    whole n (suc m) e = omega (arith, ints)

    same : (n k : ℕ) → k ≤ n → minus n -ℤ minus k ≡ minus (n - k)
    same zero zero l = refl
    same zero (suc k) l = absurd (omega arith)
    same (suc n) zero l = whole n (suc n - 0) (omega arith)
    same (suc n) (suc k) l = less n k (suc n - suc k) (omega arith)

-- ---- what is left of a field

pub remains : (w n : ℕ) → w < NUMBER_LIMIT → n < NUMBER_LIMIT → within 0 (pos w -ℤ pos n) ≡ Gives (pos w -ℤ pos n)
remains w n l h = go (nat_lt w n) refl
  where
    go : (b : Bool) → nat_lt w n ≡ b → within 0 (pos w -ℤ pos n) ≡ Gives (pos w -ℤ pos n)
    go true e = let s = ltb-true w n e in let z : pos w -ℤ pos n ≡ negsuc (n - suc w) = omega (arith, ints)
        in shortfall w n s h ∙ ap Gives (sym z)
    go false e = let s = ltb-false w n e in let z : pos w -ℤ pos n ≡ pos (w - n) = omega (arith, ints) in difference w n
        (omega (arith, s)) l ∙ ap Gives (sym z)

pub one_narrower : (w n : ℕ) → w < NUMBER_LIMIT → suc n < NUMBER_LIMIT → computed Subtract 0 (pos w -ℤ pos n) (pos 1)
    ≡ Gives (pos w -ℤ pos (suc n))
one_narrower w n l h = let e : (pos w -ℤ pos n) -ℤ pos 1 ≡ pos w -ℤ pos (suc n) = omega (arith, ints) in ap (within 0) e
    ∙ remains w (suc n) l h

-- ---- comparisons of numbers that are not positive

pub at_most_minus_ten : (q : ℕ) → 10 ≤ q → compared LessEqual (minus q) (negsuc 9) ≡ true
at_most_minus_ten zero l = absurd (omega arith)
at_most_minus_ten (suc q) l = ap not (le-ltb q 9 (omega arith))

pub above_minus_ten : (q : ℕ) → q < 10 → compared LessEqual (minus q) (negsuc 9) ≡ false
above_minus_ten zero l = refl
above_minus_ten (suc q) l = ap not (lt-ltb q 9 (omega arith))

pub not_negative : (n : ℕ) → compared GreaterEqual (pos n) (pos 0) ≡ true
not_negative n = ap not (le-ltb n 0 (omega arith))
