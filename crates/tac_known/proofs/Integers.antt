-- Integers within bounds.
use Rattle.std.proofs.Common.{◌≡◌, ◌≢◌, ℕ, zero, suc, ◌+◌, ◌-◌, ◌*◌, ◌/◌, ◌%◌, ◌^◌, ◌<◌, ◌≤◌, Bool, true, false, not}
use Rattle.std.proofs.Common.{◌&&◌, nat_lt, if◌then◌else◌, ℤ, pos, negsuc, ◌+ℤ◌, ◌*ℤ◌, refl, sym, ap, ◌∙◌, arith}
use Rattle.std.proofs.Common.{eq-eqb, eqb-true, FitsSigned, w32, w64, unsigned_abs}
use Rattle.std.proofs.Math.Nat.{div-mul-le_self, div-le_self}
use Rattle.std.proofs.lemmas.Nat.{le-div, mul-le}
use Rattle.std.specs.Prelude.{int_lt, int_div, neg_ℤ, ◌≤ℤ◌, ◌<ℤ◌}
use Rattle.std.specs.Ordering.{int_eq}
use Rattle.std.specs.Int.{int_rem_euclid}
use Rattle.std.proofs.lemmas.Int.{ints, unsigned_abs-mul}
use Rattle.std.proofs.lemmas.Bool.{ltb-true, ltb-false, lt-ltb, true≢false, and_parts, not-true}
use Rattle.tac_code.specs.Numbers.{is_integer, is_in_range, number_of, bits, same_number}
use Rattle.tac_code.specs.declared.code.BitOperator.TheVariants.{Plus}
use Rattle.tac_code.specs.declared.code.TheConstants.{NUMBER_LIMIT}
use Rattle.tac_code.proofs.Numbers.{at_least}
use Rattle.tac_known.specs.Kinds.{least, greatest}

pub is_below : (low x : ℤ) → int_lt x low ≡ true → x <ℤ low
is_below low x e = grind (arith, ints)

pub no_less : (low x : ℤ) → low ≤ℤ x → int_lt x low ≡ false
no_less low x h = grind (arith, ints)

pub bounds_of : (low high x : ℤ) → is_in_range low high x ≡ true → (low ≤ℤ x) × (x ≤ℤ high)
bounds_of low high x e =
    let b = and_parts (not (int_lt x low)) (not (int_lt high x)) e in (
      at_least low x (not-true (int_lt x low) b.0),
      at_least x high (not-true (int_lt high x) b.1),
    )

pub in_range : (low high x : ℤ) → low ≤ℤ x → x ≤ℤ high → is_in_range low high x ≡ true
in_range low high x l h =
    ap (λ b. not b && not (int_lt high x)) (no_less low x l) ∙ ap (λ b. not b) (no_less x high h)

pub integer_bounds : (z : ℤ) → is_integer z ≡ true → (least ≤ℤ z) × (z ≤ℤ greatest)
integer_bounds (pos n) e = let l = ltb-true n NUMBER_LIMIT e in (omega (arith, ints, l), omega (arith, ints, l))
integer_bounds (negsuc n) e = let l = ltb-true n NUMBER_LIMIT e in (omega (arith, ints, l), omega (arith, ints, l))

pub is_integer_between : (z : ℤ) → least ≤ℤ z → z ≤ℤ greatest → is_integer z ≡ true
is_integer_between (pos n) l h = lt-ltb n NUMBER_LIMIT (omega (arith, ints, h))
is_integer_between (negsuc n) l h = lt-ltb n NUMBER_LIMIT (omega (arith, ints, l))

-- ---- sums modulo 2 ^ 32

signed : (m : ℕ) (z : ℤ) → (m < NUMBER_LIMIT → z ≡ pos m) → (NUMBER_LIMIT ≤ m → z ≡ negsuc (2 ^ 32 - suc m))
    → number_of m ≡ z
signed m z f g = go (nat_lt m NUMBER_LIMIT) refl
  where
    go : (b : Bool) → nat_lt m NUMBER_LIMIT ≡ b → number_of m ≡ z
    go true e = ap (λ b. if b then pos m else negsuc (2 ^ 32 - suc m)) e ∙ sym (f (ltb-true m NUMBER_LIMIT e))
    go false e = ap (λ b. if b then pos m else negsuc (2 ^ 32 - suc m)) e ∙ sym (g (ltb-false m NUMBER_LIMIT e))

mixed : (a b m : ℕ) → m ≡ (a + (2 ^ 32 - suc b)) % 2 ^ 32 → a < NUMBER_LIMIT → b < NUMBER_LIMIT → number_of m
    ≡ pos a +ℤ negsuc b
mixed a b m is la lb = go (nat_lt b a) refl
  where
    go : (t : Bool) → nat_lt b a ≡ t → number_of m ≡ pos a +ℤ negsuc b
    go true e =
        let l = ltb-true b a e in
        let at : m ≡ a - suc b = omega (arith, is, la, lb, l) in
        signed m (pos a +ℤ negsuc b) (λ q. omega (arith, ints, l, at)) (λ q. absurd (omega (arith, at, la, q)))
    go false e =
        let l = ltb-false b a e in
        let at : m + suc b ≡ a + 2 ^ 32 = omega (arith, is, la, lb, l) in
        signed m (pos a +ℤ negsuc b) (λ q. absurd (omega (arith, at, lb, q)))
        (λ q. omega (arith, ints, l, at, lb))

pub plain : (x y : ℤ) → is_integer x ≡ true → is_integer y ≡ true → is_integer (x +ℤ y) ≡ true → bits Plus x y
    ≡ x +ℤ y
plain (pos a) (pos b) i j k =
    let l = ltb-true (a + b) NUMBER_LIMIT k in
    let at : (a + b) % 2 ^ 32 ≡ a + b = omega (arith, l) in
    ap number_of at ∙ signed (a + b) (pos (a + b)) (λ q. refl) (λ q. absurd (omega (arith, l, q)))
plain (pos a) (negsuc b) i j k = mixed a b _ refl (ltb-true a NUMBER_LIMIT i) (ltb-true b NUMBER_LIMIT j)
plain (negsuc b) (pos a) i j k =
    mixed a b _ (ap (λ n. n % 2 ^ 32) (omega arith)) (ltb-true a NUMBER_LIMIT j) (ltb-true b NUMBER_LIMIT i)
    ∙ (let e : pos a +ℤ negsuc b ≡ negsuc b +ℤ pos a = omega (arith, ints) in e)
plain (negsuc a) (negsuc b) i j k =
    let la = ltb-true a NUMBER_LIMIT i in
    let lb = ltb-true b NUMBER_LIMIT j in
    let h = (integer_bounds (negsuc a +ℤ negsuc b) k).0 in
    let at : (2 ^ 32 - suc a + (2 ^ 32 - suc b)) % 2 ^ 32 ≡ 2 ^ 32 - suc (suc (a + b))
    = omega (arith, ints, la, lb, h) in
    ap number_of at
    ∙ signed (2 ^ 32 - suc (suc (a + b))) (negsuc a +ℤ negsuc b)
    (λ q. absurd (omega (arith, ints, la, lb, h, q))) (λ q. omega (arith, ints, la, lb, h))

-- ---- remainders

pub remainder_bounds : (x y : ℤ) → pos 0 <ℤ y → (pos 0 ≤ℤ int_rem_euclid x y) × (int_rem_euclid x y <ℤ y)
remainder_bounds (pos a) (pos zero) h = absurd (omega (arith, ints, h))
remainder_bounds (pos a) (pos (suc n)) h = let l : a % suc n < suc n = omega arith in
    (omega (arith, ints), omega (arith, ints, l))
remainder_bounds (negsuc a) (pos zero) h = absurd (omega (arith, ints, h))
remainder_bounds (negsuc a) (pos (suc n)) h = (omega (arith, ints), omega (arith, ints))
remainder_bounds x (negsuc n) h = absurd (omega (arith, ints, h))

-- ---- products and quotients

opposite_size : (n : ℕ) → unsigned_abs (neg_ℤ (pos n)) ≡ n
opposite_size zero = refl
opposite_size (suc n) = refl

pub product_fits : (x y : ℤ) → unsigned_abs x ≤ NUMBER_LIMIT → unsigned_abs y ≤ NUMBER_LIMIT → FitsSigned w64 (x *ℤ y)
product_fits x y h k =
    let s = unsigned_abs-mul x y in
    let p = mul-le (unsigned_abs x) (unsigned_abs y) NUMBER_LIMIT NUMBER_LIMIT h k in
    omega (arith, ints, s, p)

-- of greater numbers that aren't negative the product is no less
pub products_grow : (x y h h' : ℤ) → pos 0 ≤ℤ x → x ≤ℤ h → pos 0 ≤ℤ y → y ≤ℤ h' → (x *ℤ y) ≤ℤ (h *ℤ h')
products_grow (pos a) (pos b) (pos c) (pos d) p q r s =
    let m = mul-le a b c d (omega (arith, ints, q)) (omega (arith, ints, s)) in
    omega (arith, ints, m)
products_grow (pos a) (pos b) (pos c) (negsuc d) p q r s = absurd (omega (arith, ints, s))
products_grow (pos a) (pos b) (negsuc c) h' p q r s = absurd (omega (arith, ints, q))
products_grow (pos a) (negsuc b) h h' p q r s = absurd (omega (arith, ints, r))
products_grow (negsuc a) y h h' p q r s = absurd (omega (arith, ints, p))

no_more_quotient : (a b k : ℕ) → a ≤ b → a / suc k ≤ b / suc k
no_more_quotient a b k h =
    let p = div-mul-le_self a (suc k) in
    le-div (a / suc k) b (suc k) (omega arith) (omega (arith, p, h))

-- nor is the quotient
pub quotients_grow : (x h d : ℤ) → pos 0 ≤ℤ x → x ≤ℤ h → pos 0 <ℤ d → int_div x d ≤ℤ int_div h d
quotients_grow (pos a) (pos b) (pos (suc k)) p q r =
    let m = no_more_quotient a b k (omega (arith, ints, q)) in
    omega (arith, ints, m)
quotients_grow (pos a) (pos b) (pos zero) p q r = absurd (omega (arith, ints, r))
quotients_grow (pos a) (pos b) (negsuc k) p q r = absurd (omega (arith, ints, r))
quotients_grow (pos a) (negsuc b) d p q r = absurd (omega (arith, ints, q))
quotients_grow (negsuc a) h d p q r = absurd (omega (arith, ints, p))

opposite_fits : (n a : ℕ) → n ≤ suc a → FitsSigned w32 (negsuc a) → FitsSigned w32 (neg_ℤ (pos n))
opposite_fits zero a l h = omega (arith, ints)
opposite_fits (suc n) a l h = omega (arith, ints, l, h)

pub quotient_fits : (x d : ℤ) → FitsSigned w32 x → pos 0 <ℤ d → FitsSigned w32 (int_div x d)
quotient_fits (pos a) (pos (suc k)) h p = let q = div-le_self a (suc k) in omega (arith, ints, h, q)
quotient_fits (negsuc a) (pos (suc k)) h p = opposite_fits (suc a / suc k) a (div-le_self (suc a) (suc k)) h
quotient_fits x (pos zero) h p = absurd (omega (arith, ints, p))
quotient_fits x (negsuc k) h p = absurd (omega (arith, ints, p))

-- ---- equal numbers

pub same_int : (x y : ℤ) → same_number x y ≡ true → x ≡ y
same_int (pos a) (pos b) e = ap pos (eqb-true a b e)
same_int (pos a) (negsuc b) e = absurd (true≢false (sym e))
same_int (negsuc a) (pos b) e = absurd (true≢false (sym e))
same_int (negsuc a) (negsuc b) e = ap negsuc (eqb-true a b e)

pub same_itself : (x : ℤ) → same_number x x ≡ true
same_itself (pos a) = eq-eqb a a refl
same_itself (negsuc a) = eq-eqb a a refl

pub other_int : (x y : ℤ) → same_number x y ≡ false → x ≢ y
other_int x y e same = true≢false (sym (same_itself x) ∙ ap (same_number x) same ∙ e)

pub eq_int : (x y : ℤ) → int_eq x y ≡ true → x ≡ y
eq_int x y e = grind (arith, ints)

-- the test of an integer, as a program makes it
pub integer_test : (z : ℤ) → (not (int_lt z least) && not (int_lt greatest z)) ≡ is_integer z
integer_test z = which (is_integer z) refl
  where
    outside : (a b : Bool) → int_lt z least ≡ a → int_lt greatest z ≡ b → is_integer z ≡ false →
        (not a && not b) ≡ false
    outside true b e f g = refl
    outside false true e f g = refl
    outside false false e f g =
        absurd (true≢false (sym (is_integer_between z (at_least least z e) (at_least z greatest f)) ∙ g))

    which : (t : Bool) → is_integer z ≡ t → (not (int_lt z least) && not (int_lt greatest z)) ≡ t
    which true e = let b = integer_bounds z e in in_range least greatest z b.0 b.1
    which false e = outside (int_lt z least) (int_lt greatest z) refl refl e
