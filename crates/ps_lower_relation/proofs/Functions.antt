-- What the instructions of the required functions give.
use Rattle.std.proofs.Common.{◌≡◌, ℕ, zero, suc, ◌+◌, ◌-◌, ◌%◌, ◌^◌, ◌<◌, ◌≤◌, ℤ, pos, negsuc, ◌+ℤ◌, ◌-ℤ◌, unsigned_abs}
use Rattle.std.proofs.Common.{int_lt, Bool, true, false, ◌&&◌, ◌==◌, nat_lt, nat_le, if◌then◌else◌, IsTrue, refl, sym}
use Rattle.std.proofs.Common.{ap, ◌∙◌, arith, lt-ltb, ltb-true, ltb-false, le-leb, leb-true}
use Rattle.std.specs.Prelude.{bit_and}
use Rattle.std.proofs.lemmas.Grind.{and_numeral}
use Rattle.tac_code.specs.declared.code.BitOperator.TheVariants.{And}
use Rattle.tac_code.specs.Numbers.{is_integer, number_of, bits}
use Rattle.tac_code.specs.declared.code.TheConstants.{NUMBER_LIMIT}
use Rattle.tac_code.proofs.Numbers.{none_below}
use Rattle.ps_meaning.specs.Operators.{Result, Fault, integer, is_between, truth}
use Rattle.ps_lower_code.specs.Scopes.{least, greatest}
use Rattle.ps_lower_code.proofs.Gaps.{same_test}
use Rattle.ps_lower_relation.proofs.Numbers.{between_integers}

-- ---- abs

pub abs_up : (x : ℤ) → int_lt x (pos 0) ≡ false → IsTrue (is_integer x) → integer (pos (unsigned_abs x)) ≡ Result x
abs_up (pos n) e h = ap (λ b. if b then Result (pos n) else Fault 1) (between_integers (pos n) ∙ h)
abs_up (negsuc n) e h = absurd (cc)

pub abs_down : (x : ℤ) → int_lt x (pos 0) ≡ true → pos 0 -ℤ x ≡ pos (unsigned_abs x)
abs_down (pos n) e = let l = ltb-true n 0 e in absurd (omega arith)
abs_down (negsuc n) e = let z : 0 + suc n ≡ suc n = omega arith in ap pos z

-- ---- odd

odd_number : (m : ℕ) → m < 2 → number_of m ≡ truth (m == 1)
odd_number zero l = refl
odd_number (suc zero) l = refl
odd_number (suc (suc m)) l = absurd (omega arith)

last_bit : (n : ℕ) → bit_and n 1 ≡ n % 2
last_bit n = and_numeral n 0 refl

pub odd_same : (x : ℤ) → IsTrue (is_integer x) → bits And x (pos 1) ≡ truth (unsigned_abs x % 2 == 1)
odd_same (pos n) h = ap number_of (last_bit n) ∙ odd_number (n % 2) (omega arith)
odd_same (negsuc n) h =
    let l = ltb-true n NUMBER_LIMIT h in
    let m : (2 ^ 32 - suc n) % 2 ≡ suc n % 2 = omega (arith, l) in
    ap number_of (last_bit (2 ^ 32 - suc n)) ∙ ap number_of m ∙ odd_number (suc n % 2) (omega arith)

-- ---- succ and pred

next_at_most : (n m : ℕ) → nat_le (n + 1) m ≡ nat_lt n m
next_at_most n m = same_test (nat_le (n + 1) m) (nat_lt n m)
    (λ e. let l = leb-true (n + 1) m e in lt-ltb n m (omega arith))
    (λ e. let l = ltb-true n m e in le-leb (n + 1) m (omega arith))

at_most_next : (n m : ℕ) → nat_le n m ≡ nat_lt n (suc m)
at_most_next n m = same_test (nat_le n m) (nat_lt n (suc m))
    (λ e. let l = leb-true n m e in lt-ltb n (suc m) (omega arith))
    (λ e. let l = ltb-true n (suc m) e in le-leb n m (omega arith))

up_from_minus : (n : ℕ) → negsuc (suc n) +ℤ pos 1 ≡ negsuc n
up_from_minus n =
    let less : nat_lt 1 (suc (suc n)) ≡ true = lt-ltb 1 (suc (suc n)) (omega arith) in
    let plain : suc (suc n) - suc 1 ≡ n = omega arith in
    ap (λ b. if b then negsuc (suc (suc n) - suc 1) else pos (1 - suc (suc n))) less ∙ ap negsuc plain

down_from_plus : (n : ℕ) → pos (suc n) -ℤ pos 1 ≡ pos n
down_from_plus n =
    let less : nat_lt (suc n) 1 ≡ false = go (nat_lt (suc n) 1) refl in
    let plain : suc n - 1 ≡ n = omega arith in
    ap (λ b. if b then negsuc (1 - suc (suc n)) else pos (suc n - 1)) less ∙ ap pos plain
  where
    go : (b : Bool) → nat_lt (suc n) 1 ≡ b → b ≡ false
    go true e = let q = ltb-true (suc n) 1 e in absurd (omega arith)
    go false e = refl

down_from_minus : (n : ℕ) → negsuc n -ℤ pos 1 ≡ negsuc (suc n)
down_from_minus n = let z : n + 0 ≡ n = omega arith in ap (λ y. negsuc (suc y)) z

both_true : (a b : Bool) → a ≡ true → (a && b) ≡ b
both_true true b e = refl
both_true false b e = absurd (cc)

true_second : (a b : Bool) → b ≡ true → (a && b) ≡ a
true_second true true e = refl
true_second false b e = refl
true_second true false e = absurd (cc)

-- the next number lies up to the highest one, where the number lies below that
pub succ_between : (x high : ℤ) → IsTrue (is_integer x) → is_between least (x +ℤ pos 1) high ≡ int_lt x high
succ_between (pos n) (pos m) h = next_at_most n m
succ_between (pos n) (negsuc m) h = refl
succ_between (negsuc zero) (pos m) h = le-leb 0 m (omega arith)
succ_between (negsuc zero) (negsuc m) h = sym (none_below m)
succ_between (negsuc (suc n)) (pos m) h = let l = ltb-true (suc n) NUMBER_LIMIT h
    in ap (λ s. is_between least s (pos m))
    (up_from_minus n) ∙ both_true (nat_le n (NUMBER_LIMIT - 1)) true (le-leb n (NUMBER_LIMIT - 1) (omega arith))
succ_between (negsuc (suc n)) (negsuc m) h = let l = ltb-true (suc n) NUMBER_LIMIT h
    in ap (λ s. is_between least s (negsuc m)) (up_from_minus n) ∙ both_true (nat_le n (NUMBER_LIMIT - 1)) (nat_le m n)
    (le-leb n (NUMBER_LIMIT - 1) (omega arith)) ∙ at_most_next m n

pub pred_between : (x low : ℤ) → IsTrue (is_integer x) → is_between low (x -ℤ pos 1) greatest ≡ int_lt low x
pred_between (pos zero) (pos m) h = sym (none_below m)
pred_between (pos zero) (negsuc m) h = true_second (nat_le 0 m) true refl ∙ le-leb 0 m (omega arith)
pred_between (pos (suc n)) (pos m) h = let l = ltb-true (suc n) NUMBER_LIMIT h
    in ap (λ s. is_between (pos m) s greatest)
    (down_from_plus n) ∙ true_second (nat_le m n) (nat_le n (NUMBER_LIMIT - 1))
    (le-leb n (NUMBER_LIMIT - 1) (omega arith))
    ∙ at_most_next m n
pred_between (pos (suc n)) (negsuc m) h = let l = ltb-true (suc n) NUMBER_LIMIT h
    in ap (λ s. is_between (negsuc m) s greatest) (down_from_plus n) ∙ le-leb n (NUMBER_LIMIT - 1) (omega arith)
pred_between (negsuc n) (pos m) h = refl
pred_between (negsuc n) (negsuc m) h = ap (λ s. is_between (negsuc m) s greatest) (down_from_minus n) ∙ true_second
    (nat_le (suc n) m) true refl ∙ ap (λ i. nat_le i m) (let e : suc n ≡ n + 1 = omega arith in e) ∙ next_at_most n m

-- no number beyond the integers has a bound among them
pub succ_beyond : (x high : ℤ) → IsTrue (is_integer x) → IsTrue (is_integer high) → is_integer (x +ℤ pos 1) ≡ false
    → int_lt x high ≡ false
succ_beyond (pos n) (pos m) h g e =
    let l = ltb-false (n + 1) NUMBER_LIMIT e in
    let k = ltb-true m NUMBER_LIMIT g in
    go (nat_lt n m) refl l k
  where
    go : (b : Bool) → nat_lt n m ≡ b → NUMBER_LIMIT ≤ n + 1 → m < NUMBER_LIMIT → b ≡ false
    go true q l k = let r = ltb-true n m q in absurd (omega arith)
    go false q l k = refl
succ_beyond (pos n) (negsuc m) h g e = refl
succ_beyond (negsuc zero) high h g e = absurd (cc)
succ_beyond (negsuc (suc n)) high h g e =
    let l = ltb-true (suc n) NUMBER_LIMIT h in
    let k = ltb-false n NUMBER_LIMIT (sym (ap is_integer (up_from_minus n)) ∙ e) in
    absurd (omega (arith, l, k))

pub pred_beyond : (x low : ℤ) → IsTrue (is_integer x) → IsTrue (is_integer low) → is_integer (x -ℤ pos 1) ≡ false
    → int_lt low x ≡ false
pred_beyond (pos zero) low h g e = absurd (cc)
pred_beyond (pos (suc n)) low h g e =
    let l = ltb-true (suc n) NUMBER_LIMIT h in
    let k = ltb-false n NUMBER_LIMIT (sym (ap is_integer (down_from_plus n)) ∙ e) in
    absurd (omega (arith, l, k))
pred_beyond (negsuc n) (pos m) h g e = refl
pred_beyond (negsuc n) (negsuc m) h g e =
    let l = ltb-false (suc n) NUMBER_LIMIT (sym (ap is_integer (down_from_minus n)) ∙ e) in
    let k = ltb-true m NUMBER_LIMIT g in
    go (nat_lt n m) refl l k
  where
    go : (b : Bool) → nat_lt n m ≡ b → NUMBER_LIMIT ≤ suc n → m < NUMBER_LIMIT → b ≡ false
    go true q l k = let r = ltb-true n m q in absurd (omega arith)
    go false q l k = refl
