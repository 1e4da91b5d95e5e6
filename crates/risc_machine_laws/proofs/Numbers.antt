-- Signed numbers as words.
use Rattle.std.proofs.Common.{◌≡◌, ◌≢◌, ℕ, zero, suc, ◌+◌, ◌-◌, ◌*◌, ◌/◌, ◌%◌, ◌^◌, ◌<◌, ◌≤◌, ◌⊎◌, inl, inr, ⊎_elim}
use Rattle.std.proofs.Common.{Bool, true, false, cond, not, ◌||◌, ltb, ℤ, pos, negsuc, ◌+ℤ◌, ◌-ℤ◌, ◌*ℤ◌, refl, sym, ap}
use Rattle.std.proofs.Common.{◌∙◌, subst, arith, lit<}
use Rattle.std.specs.Prelude.{nat_eq, nat_le, int_lt, int_div, neg_ℤ, unsigned_abs, ◌≤ℤ◌, ◌<ℤ◌}
use Rattle.std.specs.Int.{int_shr, cast_unsigned, w64, int_div_euclid, int_rem_euclid}
use Rattle.std.proofs.lemmas.Bool.{cases_eq, cases_lt, lt-ltb, le-ltb, or_parts}
use Rattle.std.proofs.lemmas.Int.{ints, by_lt_z, unsigned_abs-mul}
use Rattle.std.proofs.lemmas.Nat.{mul-le, div-mul-add}
use Rattle.std.proofs.Math.Nat.{mod-add-div'}
use Rattle.risc_machine.specs.Step.{word_of_int, signed, overflows, product, differ}
use Rattle.risc_machine.specs.declared.limits.TheConstants.{PLACES, SIGN_BIT}
use Rattle.risc_machine_laws.specs.Numbers.{IsNumber, distance, sum_of, difference_of, product_of, sign_of}
use Rattle.risc_machine_laws.specs.Numbers.{toward_zero, NumberLaws}
use Rattle.risc_machine_laws.proofs.View.{eqb_same, eqb_other}

pub signed_word : (n : ℤ) → IsNumber n → signed (word_of_int n) ≡ n
signed_word n h = omega (arith, ints, h)

pub word_narrow : (n : ℤ) → IsNumber n → word_of_int n < 2 ^ 32
word_narrow n h = omega (arith, ints, h)

at_least : (n m : ℕ) → m ≤ n → nat_le m n ≡ true
at_least n m h = grind arith

not_at_least : (n m : ℕ) → n < m → nat_le m n ≡ false
not_at_least n m h = grind arith

pub minus_word : (n : ℤ) → IsNumber n → nat_le SIGN_BIT (word_of_int n) ≡ int_lt n (pos 0)
minus_word (pos n) h = not_at_least n SIGN_BIT (omega (arith, ints, h)) ∙ sym (le-ltb n 0 (omega arith))
minus_word (negsuc n) h = at_least (2 ^ 32 - suc n) SIGN_BIT (omega (arith, ints, h))

pub zero_word : (n : ℤ) → IsNumber n → word_of_int n ≡ 0 → n ≡ pos 0
zero_word n h e = omega (arith, ints, h, e)

not_less : (a b : ℤ) → int_lt a b ≡ false → b ≤ℤ a
not_less a b h = grind (arith, ints)

pub is_number : (n : ℤ) → overflows n ≡ false → IsNumber n
is_number n h =
    let p = or_parts (int_lt n (neg_ℤ (pos SIGN_BIT))) (int_lt (pos (SIGN_BIT - 1)) n) h in
    (not_less n (neg_ℤ (pos SIGN_BIT)) p.0, not_less (pos (SIGN_BIT - 1)) n p.1)

pub sum_word : (m n : ℤ) → IsNumber m → IsNumber n → IsNumber (m +ℤ n) → sum_of (word_of_int m) (word_of_int n)
    ≡ word_of_int (m +ℤ n)
sum_word m n h k s = omega (arith, ints, h, k, s)

pub difference_word : (m n : ℤ) → IsNumber m → IsNumber n → IsNumber (m -ℤ n) → difference_of (word_of_int m)
    (word_of_int n) ≡ word_of_int (m -ℤ n)
difference_word m n h k s = omega (arith, ints, h, k, s)

-- a branch reaches its place
pub target_reached : (from to : ℕ) → from < PLACES - 1 → to < PLACES
    → (from + 1 + word_of_int (distance from to)) % PLACES ≡ to
target_reached from to h k = omega (arith, ints)

pub constant_word : (w : ℕ) → w < 2 ^ 32 → (w / 65536 * 65536 + w % 65536 + 0) % 2 ^ 32 ≡ w
constant_word w h = omega arith

-- ---- the low word of a product, and the test of its high word
low_word : (z : ℤ) → IsNumber z → cast_unsigned w64 z % 2 ^ 32 ≡ word_of_int z
low_word z h = omega (arith, ints, h)

product_bits : (m n : ℤ) → IsNumber m → IsNumber n → product (word_of_int m) (word_of_int n) ≡ cast_unsigned w64
    (m *ℤ n)
product_bits m n h k = ap (λ x. cast_unsigned w64 (x *ℤ signed (word_of_int n))) (signed_word m h)
    ∙ ap (λ y. cast_unsigned w64 (m *ℤ y)) (signed_word n k)

pub product_word : (m n : ℤ) → IsNumber m → IsNumber n → IsNumber (m *ℤ n) → product_of (word_of_int m) (word_of_int n)
    ≡ word_of_int (m *ℤ n)
product_word m n h k s = ap (λ b. b % 2 ^ 32) (product_bits m n h k) ∙ low_word (m *ℤ n) s

sign_low : (low : ℕ) → low < SIGN_BIT → sign_of low ≡ 0
sign_low low h =
    let e : signed low ≡ pos low = omega (arith, ints) in
    ap (λ z. word_of_int (int_shr z 31)) e ∙ over low h
  where
    over : (low : ℕ) → low < SIGN_BIT → low / SIGN_BIT ≡ 0
    over low h = omega arith

sign_high : (low : ℕ) → SIGN_BIT ≤ low → low < 2 ^ 32 → sign_of low ≡ 2 ^ 32 - 1
sign_high low h k =
    let e : signed low ≡ negsuc (2 ^ 32 - suc low) = rw (le-ltb low SIGN_BIT h) in
    ap (λ z. word_of_int (int_shr z 31)) e ∙ over low h k
  where
    over : (low : ℕ) → SIGN_BIT ≤ low → low < 2 ^ 32 → 2 ^ 32 - suc ((2 ^ 32 - suc low) / SIGN_BIT)
        ≡ 2 ^ 32 - 1
    over low h k = omega arith

difference_test : (s h : ℕ) → s < 2 ^ 32 → h < 2 ^ 32 → nat_eq (difference_of s h) 0 ≡ nat_eq s h
difference_test s h a b =
    ⊎_elim
    (λ (e : s ≡ h). let z : (s + 2 ^ 33 - h - 0) % 2 ^ 32 ≡ 0 = omega arith in ap (λ x. nat_eq x 0) z ∙ sym
    (ap (λ x. nat_eq x h) e ∙ eqb_same h))
    (λ (ne : s ≢ h). let z : (s + 2 ^ 33 - h - 0) % 2 ^ 32 ≢ 0 = omega arith in eqb_other
    ((s + 2 ^ 33 - h - 0) % 2 ^ 32) 0 z ∙ sym (eqb_other s h ne))
    (cases_eq s h)

equal_false : (s h : ℕ) (b : Bool) → s ≢ h → b ≡ true → nat_eq s h ≡ not b
equal_false s h b ne e = eqb_other s h ne ∙ ap not (sym e)

equal_true : (s h : ℕ) (b : Bool) → s ≡ h → b ≡ false → nat_eq s h ≡ not b
equal_true s h b e f = ap (λ x. nat_eq x h) e ∙ eqb_same h ∙ ap not (sym f)

or_right : (b : Bool) → b || false ≡ b
or_right true = refl
or_right false = refl

-- the sign of the low word against the high word
high_test : (z : ℤ) → unsigned_abs z ≤ 4611686018427387904 → nat_eq (sign_of (cast_unsigned w64 z % 2 ^ 32))
    (cast_unsigned w64 z / 2 ^ 32) ≡ not (overflows z)
high_test (pos n) h =
    ⊎_elim
    (λ (lt : n % 2 ^ 32 < SIGN_BIT).
    let s = sign_low (n % 2 ^ 32) lt in
    ⊎_elim
    (λ (small : n < SIGN_BIT). equal_true _ (n / 2 ^ 32) (overflows (pos n))
    (let e : 0 ≡ n / 2 ^ 32 = omega arith in s ∙ e) (le-ltb (SIGN_BIT - 1) n (omega arith)))
    (λ (large : SIGN_BIT ≤ n). equal_false _ (n / 2 ^ 32) (overflows (pos n))
    (λ e. let x : 0 ≡ n / 2 ^ 32 = sym s ∙ e in absurd (omega arith)) (lt-ltb (SIGN_BIT - 1) n (omega arith)))
    (cases_lt n SIGN_BIT))
    (λ (ge : SIGN_BIT ≤ n % 2 ^ 32).
    let s = sign_high (n % 2 ^ 32) ge (omega arith) in
    equal_false _ (n / 2 ^ 32) (overflows (pos n))
    (λ e. let x : 2 ^ 32 - 1 ≡ n / 2 ^ 32 = sym s ∙ e in absurd (omega arith))
    (lt-ltb (SIGN_BIT - 1) n (omega arith)))
    (cases_lt (n % 2 ^ 32) SIGN_BIT)
high_test (negsuc n) h =
    let p : ℕ = 18446744073709551616 - suc n in
    ⊎_elim
    (λ (lt : p % 2 ^ 32 < SIGN_BIT).
    let s = sign_low (p % 2 ^ 32) lt in
    equal_false _ (p / 2 ^ 32) (overflows (negsuc n))
    (λ e. let x : 0 ≡ p / 2 ^ 32 = sym s ∙ e in absurd (omega arith))
    (or_right (ltb (SIGN_BIT - 1) n) ∙ lt-ltb (SIGN_BIT - 1) n (omega arith)))
    (λ (ge : SIGN_BIT ≤ p % 2 ^ 32).
    let s = sign_high (p % 2 ^ 32) ge (omega arith) in
    ⊎_elim
    (λ (small : n < SIGN_BIT). equal_true _ (p / 2 ^ 32) (overflows (negsuc n))
    (let e : 2 ^ 32 - 1 ≡ p / 2 ^ 32 = omega arith in s ∙ e)
    (or_right (ltb (SIGN_BIT - 1) n) ∙ le-ltb (SIGN_BIT - 1) n (omega arith)))
    (λ (large : SIGN_BIT ≤ n). equal_false _ (p / 2 ^ 32) (overflows (negsuc n))
    (λ e. let x : 2 ^ 32 - 1 ≡ p / 2 ^ 32 = sym s ∙ e in absurd (omega arith))
    (or_right (ltb (SIGN_BIT - 1) n) ∙ lt-ltb (SIGN_BIT - 1) n (omega arith)))
    (cases_lt n SIGN_BIT))
    (cases_lt (p % 2 ^ 32) SIGN_BIT)

sign_narrow : (low : ℕ) → low < 2 ^ 32 → sign_of low < 2 ^ 32
sign_narrow low h =
    ⊎_elim
    (λ (lt : low < SIGN_BIT). subst (λ x. x < 2 ^ 32) (sym (sign_low low lt)) (lit< tt))
    (λ (ge : SIGN_BIT ≤ low). subst (λ x. x < 2 ^ 32) (sym (sign_high low ge h)) (lit< tt))
    (cases_lt low SIGN_BIT)

bits_narrow : (z : ℤ) → unsigned_abs z ≤ 4611686018427387904 → cast_unsigned w64 z / 2 ^ 32 < 2 ^ 32
bits_narrow (pos n) h = omega (arith, h)
bits_narrow (negsuc n) h = omega arith

product_size : (x y : ℤ) → IsNumber x → IsNumber y → unsigned_abs (x *ℤ y) ≤ 4611686018427387904
product_size x y nx ny =
    let hx : unsigned_abs x ≤ SIGN_BIT = omega (arith, ints, nx) in
    let hy : unsigned_abs y ≤ SIGN_BIT = omega (arith, ints, ny) in
    subst (λ k. k ≤ 4611686018427387904) (sym (unsigned_abs-mul x y))
    (mul-le (unsigned_abs x) (unsigned_abs y) SIGN_BIT SIGN_BIT hx hy)

sized_test : (z : ℤ) → unsigned_abs z ≤ 4611686018427387904 → nat_eq
    (difference_of (sign_of (cast_unsigned w64 z % 2 ^ 32)) (cast_unsigned w64 z / 2 ^ 32)) 0 ≡ not (overflows z)
sized_test z h =
    difference_test (sign_of (cast_unsigned w64 z % 2 ^ 32)) (cast_unsigned w64 z / 2 ^ 32)
    (sign_narrow (cast_unsigned w64 z % 2 ^ 32) (omega arith)) (bits_narrow z h) ∙ high_test z h

pub product_test : (m n : ℤ) → IsNumber m → IsNumber n → nat_eq
    (difference_of (sign_of (product_of (word_of_int m) (word_of_int n)))
    (product (word_of_int m) (word_of_int n) / 2 ^ 32)) 0 ≡ not (overflows (m *ℤ n))
product_test m n h k =
    ap (λ b. nat_eq (difference_of (sign_of (b % 2 ^ 32)) (b / 2 ^ 32)) 0) (product_bits m n h k) ∙ sized_test (m *ℤ n)
    (product_size m n h k)

-- ---- N <> V after a difference of two numbers is their order
less_true : (x y : ℤ) → x <ℤ y → int_lt x y ≡ true
less_true x y h = grind (arith, ints)

less_false : (x y : ℤ) → y ≤ℤ x → int_lt x y ≡ false
less_false x y h = grind (arith, ints)

or_true : (a b : Bool) → a || b ≡ true → (a ≡ true) ⊎ (b ≡ true)
or_true true b h = inl refl
or_true false b h = inr h

less_is : (x y : ℤ) → int_lt x y ≡ true → x <ℤ y
less_is x y h = grind (arith, ints)

pub compare_flags : (x y : ℤ) → IsNumber x → IsNumber y → differ
    (nat_le SIGN_BIT (difference_of (word_of_int x) (word_of_int y))) (overflows (x -ℤ y)) ≡ int_lt x y
compare_flags x y hx hy = go (overflows (x -ℤ y)) refl
  where
    fits : IsNumber (x -ℤ y) → x <ℤ y → SIGN_BIT ≤ (word_of_int x + 2 ^ 33 - word_of_int y - 0) % 2 ^ 32
    fits n lt = omega (arith, ints, hx, hy, n, lt)

    fits_not : IsNumber (x -ℤ y) → y ≤ℤ x → (word_of_int x + 2 ^ 33 - word_of_int y - 0) % 2 ^ 32 < SIGN_BIT
    fits_not n le = omega (arith, ints, hx, hy, n, le)

    low : (x -ℤ y) <ℤ neg_ℤ (pos SIGN_BIT) → (word_of_int x + 2 ^ 33 - word_of_int y - 0) % 2 ^ 32 < SIGN_BIT
    low h = omega (arith, ints, hx, hy, h)

    high : pos (SIGN_BIT - 1) <ℤ (x -ℤ y) → SIGN_BIT ≤ (word_of_int x + 2 ^ 33 - word_of_int y - 0) % 2 ^ 32
    high h = omega (arith, ints, hx, hy, h)

    low_order : (x -ℤ y) <ℤ neg_ℤ (pos SIGN_BIT) → x <ℤ y
    low_order h = omega (arith, ints, hx, hy, h)

    high_order : pos (SIGN_BIT - 1) <ℤ (x -ℤ y) → y ≤ℤ x
    high_order h = omega (arith, ints, hx, hy, h)

    go : (b : Bool) → overflows (x -ℤ y) ≡ b → differ
        (nat_le SIGN_BIT (difference_of (word_of_int x) (word_of_int y))) b ≡ int_lt x y
    go false e =
        let n = is_number (x -ℤ y) e in
        by_lt_z x y (λ lt. ap (λ c. differ c false) (at_least _ SIGN_BIT (fits n lt)) ∙ sym (less_true x y lt))
        (λ le. ap (λ c. differ c false) (not_at_least _ SIGN_BIT (fits_not n le)) ∙ sym (less_false x y le))
    go true e =
        ⊎_elim
        (λ l. let h = less_is (x -ℤ y) (neg_ℤ (pos SIGN_BIT)) l in ap (λ c. differ c true)
        (not_at_least _ SIGN_BIT (low h)) ∙ sym (less_true x y (low_order h)))
        (λ r. let h = less_is (pos (SIGN_BIT - 1)) (x -ℤ y) r in ap (λ c. differ c true) (at_least _ SIGN_BIT (high h))
        ∙ sym (less_false x y (high_order h)))
        (or_true (int_lt (x -ℤ y) (neg_ℤ (pos SIGN_BIT))) (int_lt (pos (SIGN_BIT - 1)) (x -ℤ y)) e)

-- ---- quotients
next_quotient : (a b : ℕ) → 0 < b → a % b + 1 ≢ b → suc a / b ≡ a / b
next_quotient a b h ne =
    let r : a % b < b = omega arith in
    let small : a % b + 1 < b = omega arith in
    let parts = mod-add-div' a b in
    let e : suc a ≡ a / b * b + (a % b + 1) = omega (arith, parts) in
    ap (λ x. x / b) e ∙ div-mul-add (a / b) b (a % b + 1) small

last_quotient : (a b : ℕ) → 0 < b → a % b + 1 ≡ b → suc a / b ≡ suc (a / b)
last_quotient a b h s =
    let parts = mod-add-div' a b in
    let e : suc a ≡ suc (a / b) * b + 0 = sums (a / b) (a % b) parts s in
    ap (λ x. x / b) e ∙ div-mul-add (suc (a / b)) b 0 h
  where
    sums : (q y : ℕ) → y + q * b ≡ a → y + 1 ≡ b → suc a ≡ suc q * b + 0
    sums q y p r = omega arith

one_up : (q : ℕ) → neg_ℤ (pos q) ≡ negsuc q +ℤ pos 1
one_up q = omega (arith, ints)

pub quotient_corrected : (m n : ℤ) → pos 0 <ℤ n → int_div m n ≡ toward_zero (int_div_euclid m n) (int_rem_euclid m n)
quotient_corrected (pos a) (pos b) h = refl
quotient_corrected (negsuc a) (pos b) h =
    let lt : 0 < b = omega (arith, ints, h) in
    ⊎_elim
    (λ (e : a % b + 1 ≡ b).
    let z : b - 1 - a % b ≡ 0 = omega arith in
    ap (λ k. neg_ℤ (pos k)) (last_quotient a b lt e) ∙ ap (λ t. cond t (negsuc (a / b)) (negsuc (a / b) +ℤ pos 1))
    (sym (ap (λ x. nat_eq x 0) z)))
    (λ (ne : a % b + 1 ≢ b).
    let r : a % b < b = omega arith in
    let z : b - 1 - a % b ≢ 0 = omega arith in
    ap (λ k. neg_ℤ (pos k)) (next_quotient a b lt ne) ∙ one_up (a / b)
    ∙ ap (λ t. cond t (negsuc (a / b)) (negsuc (a / b) +ℤ pos 1)) (sym (eqb_other (b - 1 - a % b) 0 z)))
    (cases_eq (a % b + 1) b)
quotient_corrected (pos a) (negsuc b) h = absurd (omega (arith, ints, h))
quotient_corrected (negsuc a) (negsuc b) h = absurd (omega (arith, ints, h))

twice : (k : ℕ) → pos k ≡ neg_ℤ (neg_ℤ (pos k))
twice zero = refl
twice (suc k) = refl

pub quotient_negated : (m n : ℤ) → pos 0 <ℤ n → int_div m (neg_ℤ n) ≡ neg_ℤ (int_div m n)
quotient_negated m (pos zero) h = absurd (omega (arith, ints, h))
quotient_negated (pos a) (pos (suc b)) h = refl
quotient_negated (negsuc a) (pos (suc b)) h = twice (suc a / suc b)
quotient_negated (pos a) (negsuc b) h = absurd (omega (arith, ints, h))
quotient_negated (negsuc a) (negsuc b) h = absurd (omega (arith, ints, h))

pub number_laws : NumberLaws
number_laws =
    record {
      narrow = word_narrow;
      read = signed_word;
      minus = minus_word;
      zeros = zero_word;
      fits = is_number;
      sums = sum_word;
      differences = difference_word;
      products = product_word;
      product_fits = product_test;
      order = compare_flags;
      quotients = quotient_corrected;
      negated = quotient_negated;
      reached = target_reached;
      constant = constant_word;
    }
