-- The words of sets: what the operators on bits make of them.
use Rattle.std.proofs.Common.{◌≡◌, ℕ, zero, suc, ◌+◌, ◌-◌, ◌*◌, ◌/◌, ◌%◌, ◌^◌, ◌<◌, pos, negsuc, Bool, true, false}
use Rattle.std.proofs.Common.{not, ◌&&◌, ◌||◌, nat_eq, nat_lt, if◌then◌else◌, max, min, slice_get, Some, refl, sym, ap}
use Rattle.std.proofs.Common.{◌∙◌, arith, eqb-true}
use Rattle.std.specs.Prelude.{bit_and, bit_or}
use Rattle.std.specs.Int.{bit_at}
use Rattle.std.proofs.Math.Nat.{pow-suc}
use Rattle.std.proofs.Math.Pow.{pow-lt}
use Rattle.std.proofs.lemmas.Nat.{or_lt, and_le_l}
use Rattle.std.proofs.lemmas.Nat.Bits.{bit_at-zero, bit_at_lowest, bit_at-suc, bit_at-pow_same, bit_at-pow_other}
use Rattle.std.proofs.lemmas.Nat.Bits.{bit_at_or, bit_at_and, same_from_bits_below}
use Rattle.std.proofs.lemmas.Bool.{ne_eqb}
use Rattle.ps_tree.specs.declared.tree.operators.SetOperator.{SetOperator}
use Rattle.ps_tree.specs.declared.tree.operators.SetOperator.TheVariants.{Union, Difference, Intersection}
use Rattle.tac_code.specs.declared.code.Value.TheVariants.{Number}
use Rattle.tac_code.specs.declared.code.BitOperator.TheVariants.{And, Or, ShiftLeft}
use Rattle.tac_code.specs.Numbers.{number_of, word_of, bits, same_number}
use Rattle.tac_code.specs.declared.code.TheConstants.{NUMBER_LIMIT}
use Rattle.tac_code.proofs.Numbers.{eq_same}
use Rattle.ps_meaning.specs.Operators.{combine_sets}
use Rattle.ps_lower_layout.specs.Words.{bits_from, set_words_from, set_words}
use Rattle.ps_lower_code.proofs.Masks.{bits_below}
use Rattle.ps_lower_relation.specs.Sets.{set_number, bit_operator_of}
use Rattle.ps_lower_relation.proofs.Bytes.{word_back}

-- ---- numbers by their bits

abbrev pub bit_of : Bool → ℕ
bit_of b = if b then 1 else 0

pub bits_bit : (n k i : ℕ) (s : ℕ → Bool) → i < n → bit_at (bits_from n k s) i ≡ bit_of (s (k + i))
bits_bit zero k i s l = absurd (omega (arith, l))
bits_bit (suc n) k zero s l = bit_at_lowest (bits_from (suc n) k s) ∙ go (s k)
    ∙ (let e : k ≡ k + 0 = omega arith in ap (λ j. bit_of (s j)) e)
  where
    go : (b : Bool) → ((if b then 1 else 0) + 2 * bits_from n (suc k) s) % 2 ≡ bit_of b
    go true = omega arith
    go false = omega arith
bits_bit (suc n) k (suc i) s l = bit_at-suc (bits_from (suc n) k s) i ∙ ap (λ m. bit_at m i) (go (s k)) ∙ bits_bit n
    (suc k) i s (omega (arith, l)) ∙ (let e : suc k + i ≡ k + suc i = omega arith in ap (λ j. bit_of (s j)) e)
  where
    go : (b : Bool) → ((if b then 1 else 0) + 2 * bits_from n (suc k) s) / 2 ≡ bits_from n (suc k) s
    go true = omega arith
    go false = omega arith

-- tests that are the same where they count
pub bits_same : (n k : ℕ) (s t : ℕ → Bool) → ((i : ℕ) → i < n → s (k + i) ≡ t (k + i)) → bits_from n k s
    ≡ bits_from n k t
bits_same zero k s t h = refl
bits_same (suc n) k s t h =
    let z : k + 0 ≡ k = omega arith in
    let first : s k ≡ t k = ap s (sym z) ∙ h 0 (omega arith) ∙ ap t z in
    let rest = bits_same n (suc k) s t (λ i l. let e : suc k + i ≡ k + suc i = omega arith in ap s e ∙ h (suc i)
    (omega (arith, l)) ∙ ap t (sym e)) in
    ap (λ b. bit_of b + 2 * bits_from n (suc k) s) first ∙ ap (λ m. bit_of (t k) + 2 * m) rest

max_bits : (a b : Bool) → max (bit_of a) (bit_of b) ≡ bit_of (a || b)
max_bits true true = refl
max_bits true false = refl
max_bits false true = refl
max_bits false false = refl

min_bits : (a b : Bool) → min (bit_of a) (bit_of b) ≡ bit_of (a && b)
min_bits true true = refl
min_bits true false = refl
min_bits false true = refl
min_bits false false = refl

bits_or : (k : ℕ) (s t : ℕ → Bool) → bit_or (bits_from 32 k s) (bits_from 32 k t) ≡ bits_from 32 k (λ i. s i || t i)
bits_or k s t =
    let a = bits_from 32 k s in
    let b = bits_from 32 k t in
    same_from_bits_below 32 (bit_or a b) (bits_from 32 k (λ i. s i || t i))
    (or_lt 32 a b (bits_below 32 k s) (bits_below 32 k t)) (bits_below 32 k (λ i. s i || t i))
    (λ i l. bit_at_or a b i ∙ ap (λ x. max x (bit_at b i)) (bits_bit 32 k i s l) ∙ ap (λ x. max (bit_of (s (k + i))) x)
    (bits_bit 32 k i t l) ∙ max_bits (s (k + i)) (t (k + i)) ∙ sym (bits_bit 32 k i (λ j. s j || t j) l))

bits_and : (k : ℕ) (s t : ℕ → Bool) → bit_and (bits_from 32 k s) (bits_from 32 k t) ≡ bits_from 32 k (λ i. s i && t i)
bits_and k s t =
    let a = bits_from 32 k s in
    let b = bits_from 32 k t in
    let less = and_le_l a b in
    let low = bits_below 32 k s in
    same_from_bits_below 32 (bit_and a b) (bits_from 32 k (λ i. s i && t i)) (omega (arith, less, low))
    (bits_below 32 k (λ i. s i && t i))
    (λ i l. bit_at_and a b i ∙ ap (λ x. min x (bit_at b i)) (bits_bit 32 k i s l) ∙ ap (λ x. min (bit_of (s (k + i))) x)
    (bits_bit 32 k i t l) ∙ min_bits (s (k + i)) (t (k + i)) ∙ sym (bits_bit 32 k i (λ j. s j && t j) l))

-- a set and all others
pub bits_both : (n k : ℕ) (s : ℕ → Bool) → bits_from n k s + bits_from n k (λ i. not (s i)) + 1 ≡ 2 ^ n
bits_both zero k s = omega arith
bits_both (suc n) k s = go (s k) (bits_both n (suc k) s)
  where
    go : (b : Bool) → bits_from n (suc k) s + bits_from n (suc k) (λ i. not (s i)) + 1 ≡ 2 ^ n
        → (bit_of b + 2 * bits_from n (suc k) s) + (bit_of (not b) + 2 * bits_from n (suc k) (λ i. not (s i))) + 1
        ≡ 2 ^ suc n
    go true r = let e = pow-suc 2 n in omega (arith, r, e)
    go false r = let e = pow-suc 2 n in omega (arith, r, e)

bits_not : (k : ℕ) (s : ℕ → Bool) → 2 ^ 32 - 1 - bits_from 32 k s ≡ bits_from 32 k (λ i. not (s i))
bits_not k s = let r = bits_both 32 k s in omega (arith, r)

-- a power of 2
bits_power : (q j : ℕ) → j < 32 → 2 ^ j ≡ bits_from 32 (32 * q) (λ k. nat_eq k (32 * q + j))
bits_power q j l =
    same_from_bits_below 32 (2 ^ j) (bits_from 32 (32 * q) (λ k. nat_eq k (32 * q + j))) (pow-lt l)
    (bits_below 32 (32 * q) (λ k. nat_eq k (32 * q + j)))
    (λ i low. go i (nat_eq i j) refl ∙ sym (bits_bit 32 (32 * q) i (λ k. nat_eq k (32 * q + j)) low))
  where
    go : (i : ℕ) (b : Bool) → nat_eq i j ≡ b → bit_at (2 ^ j) i ≡ bit_of (nat_eq (32 * q + i) (32 * q + j))
    go i true e =
        let same = eqb-true i j e in
        ap (bit_at (2 ^ j)) same ∙ bit_at-pow_same j ∙ ap bit_of
        (sym (ap (λ m. nat_eq (32 * q + m) (32 * q + j)) same ∙ eq_same (32 * q + j)))
    go i false e =
        let other : i ≡ j → ⊥ = λ s. absurd_bool (sym (ap (λ m. nat_eq m j) s ∙ eq_same j) ∙ e) in
        let apart : 32 * q + i ≡ 32 * q + j → ⊥ = λ s. other (omega (arith, s)) in
        bit_at-pow_other j i other ∙ ap bit_of (sym (ne_eqb (32 * q + i) (32 * q + j) apart))
      where
        absurd_bool : true ≡ false → ⊥
        absurd_bool s = absurd (cc)

-- ---- the numbers of a set's words

-- their words
pub number_back : (s : ℕ → Bool) (q : ℕ) → word_of (set_number s q) ≡ bits_from 32 (32 * q) s
number_back s q = let l = bits_below 32 (32 * q) s in word_back (bits_from 32 (32 * q) s) (omega (arith, l))

pub number_same : (s t : ℕ → Bool) (q : ℕ) → ((i : ℕ) → i < 32 → s (32 * q + i) ≡ t (32 * q + i)) → set_number s q
    ≡ set_number t q
number_same s t q h = ap number_of (bits_same 32 (32 * q) s t h)

-- union, difference and intersection
pub numbers_joined : (operator : SetOperator) (s t : ℕ → Bool) (q : ℕ) → bits (bit_operator_of operator)
    (set_number s q) (set_number t q) ≡ set_number (combine_sets operator s t) q
numbers_joined Union s t q =
    ap (λ a. number_of (bit_or a (word_of (set_number t q)))) (number_back s q)
    ∙ ap (λ b. number_of (bit_or (bits_from 32 (32 * q) s) b)) (number_back t q)
    ∙ ap number_of (bits_or (32 * q) s t)
numbers_joined Difference s t q =
    ap (λ a. number_of (bit_and a (2 ^ 32 - 1 - word_of (set_number t q)))) (number_back s q)
    ∙ ap (λ b. number_of (bit_and (bits_from 32 (32 * q) s) (2 ^ 32 - 1 - b))) (number_back t q)
    ∙ ap (λ b. number_of (bit_and (bits_from 32 (32 * q) s) b)) (bits_not (32 * q) t)
    ∙ ap number_of (bits_and (32 * q) s (λ i. not (t i)))
numbers_joined Intersection s t q =
    ap (λ a. number_of (bit_and a (word_of (set_number t q)))) (number_back s q)
    ∙ ap (λ b. number_of (bit_and (bits_from 32 (32 * q) s) b)) (number_back t q)
    ∙ ap number_of (bits_and (32 * q) s t)

-- the bit of a member
pub bit_plain : (n : ℕ) → bits ShiftLeft (pos 1) (pos n) ≡ number_of (2 ^ (n % 32))
bit_plain n =
    let l : n % 32 < 32 = omega arith in
    let e = pow-lt l in
    let plain : (1 * 2 ^ (n % 32)) % 2 ^ 32 ≡ 2 ^ (n % 32) = omega (arith, e) in
    ap number_of plain

-- the bit of a member, in its word
pub member_bit : (n : ℕ) → n < 256 → bits ShiftLeft (pos 1) (pos n) ≡ set_number (λ k. nat_eq k n) (n / 32)
member_bit n low =
    let q = n / 32 in
    let j = n % 32 in
    let is : n ≡ 32 * q + j = omega arith in
    let l : j < 32 = omega arith in
    let e = pow-lt l in
    let plain : (1 * 2 ^ j) % 2 ^ 32 ≡ 2 ^ j = omega (arith, e) in
    ap number_of (plain ∙ bits_power q j l ∙ bits_same 32 (32 * q) (λ k. nat_eq k (32 * q + j)) (λ k. nat_eq k n)
    (λ i h. ap (λ m. nat_eq (32 * q + i) m) (sym is)))

-- one more member, in its word and in the others
pub member_added : (s : ℕ → Bool) (n : ℕ) → n < 256 → bits Or (set_number s (n / 32)) (bits ShiftLeft (pos 1) (pos n))
    ≡ set_number (λ k. s k || nat_eq k n) (n / 32)
member_added s n low = ap (bits Or (set_number s (n / 32))) (member_bit n low) ∙ numbers_joined Union s
    (λ k. nat_eq k n) (n / 32)

pub member_elsewhere : (s : ℕ → Bool) (n q : ℕ) → (q ≡ n / 32 → ⊥) → set_number (λ k. s k || nat_eq k n) q
    ≡ set_number s q
member_elsewhere s n q other =
    number_same (λ k. s k || nat_eq k n) s q (λ i l.
    let apart : 32 * q + i ≡ n → ⊥ = λ e. other (omega (arith, e, l)) in
    ap (λ b. s (32 * q + i) || b) (ne_eqb (32 * q + i) n apart) ∙ or_false (s (32 * q + i)))
  where
    or_false : (b : Bool) → (b || false) ≡ b
    or_false true = refl
    or_false false = refl

-- ---- words that are 0

zero_bits : (n k : ℕ) (s : ℕ → Bool) → ((i : ℕ) → i < n → s (k + i) ≡ false) → bits_from n k s ≡ 0
zero_bits zero k s h = refl
zero_bits (suc n) k s h =
    let z : k + 0 ≡ k = omega arith in
    let first : s k ≡ false = ap s (sym z) ∙ h 0 (omega arith) in
    let rest = zero_bits n (suc k) s (λ i l. let e : suc k + i ≡ k + suc i = omega arith in ap s e ∙ h (suc i)
    (omega (arith, l))) in
    ap (λ b. bit_of b + 2 * bits_from n (suc k) s) first ∙ ap (λ m. 0 + 2 * m) rest

zero_number : (m : ℕ) → m < 2 ^ 32 → same_number (number_of m) (pos 0) ≡ true → m ≡ 0
zero_number m l h = go (nat_lt m NUMBER_LIMIT) h
  where
    go : (b : Bool) → same_number (if b then pos m else negsuc (2 ^ 32 - suc m)) (pos 0) ≡ true → m ≡ 0
    go true e = eqb-true m 0 e
    go false e = absurd (cc e)

-- no member is in a word that is 0, and a word without members is 0
pub none_in_zero : (s : ℕ → Bool) (q : ℕ) → same_number (set_number s q) (pos 0) ≡ true → (i : ℕ) → i < 32 → s
    (32 * q + i) ≡ false
none_in_zero s q h i l =
    let low = bits_below 32 (32 * q) s in
    let e = zero_number (bits_from 32 (32 * q) s) (omega (arith, low)) h in
    go (s (32 * q + i)) (sym (bits_bit 32 (32 * q) i s l) ∙ ap (λ m. bit_at m i) e ∙ bit_at-zero i)
  where
    go : (b : Bool) → bit_of b ≡ 0 → b ≡ false
    go true e = absurd (omega (arith, e))
    go false e = refl

pub zero_with_none : (s : ℕ → Bool) (q : ℕ) → ((i : ℕ) → i < 32 → s (32 * q + i) ≡ false) → same_number (set_number s q)
    (pos 0) ≡ true
zero_with_none s q h = ap (λ m. same_number (number_of m) (pos 0)) (zero_bits 32 (32 * q) s h)

-- whether a number is a member, by its bit
pub member_found : (s : ℕ → Bool) (n : ℕ) → n < 256 → not
    (same_number (bits And (set_number s (n / 32)) (bits ShiftLeft (pos 1) (pos n))) (pos 0)) ≡ s n
member_found s n low =
    let q = n / 32 in
    let j = n % 32 in
    let is : 32 * q + j ≡ n = omega arith in
    let l : j < 32 = omega arith in
    let both : ℕ → Bool = λ k. s k && nat_eq k n in
    ap (λ z. not (same_number (bits And (set_number s q) z) (pos 0))) (member_bit n low)
    ∙ ap (λ z. not (same_number z (pos 0))) (numbers_joined Intersection s (λ k. nat_eq k n) q)
    ∙ go (s n) refl (same_number (set_number both q) (pos 0)) refl
    (λ e. ap both (sym is) ∙ none_in_zero both q e j l)
    (λ e. zero_with_none both q (λ i h. away (32 * q + i) e))
  where
    and_true : (b : Bool) → (b && true) ≡ b
    and_true true = refl
    and_true false = refl

    away : (k : ℕ) → s n ≡ false → (s k && nat_eq k n) ≡ false
    away k e = which (nat_eq k n) refl
      where
        and_false : (b : Bool) → (b && false) ≡ false
        and_false true = refl
        and_false false = refl

        which : (b : Bool) → nat_eq k n ≡ b → (s k && nat_eq k n) ≡ false
        which true h = ap (λ b. s k && b) h ∙ and_true (s k) ∙ ap s (eqb-true k n h) ∙ e
        which false h = ap (λ b. s k && b) h ∙ and_false (s k)

    go : (b : Bool) → s n ≡ b → (z : Bool) → same_number (set_number (λ k. s k && nat_eq k n) (n / 32)) (pos 0) ≡ z
        → (same_number (set_number (λ k. s k && nat_eq k n) (n / 32)) (pos 0) ≡ true → (s n && nat_eq n n) ≡ false)
        → (s n ≡ false → same_number (set_number (λ k. s k && nat_eq k n) (n / 32)) (pos 0) ≡ true) → not
        (same_number (set_number (λ k. s k && nat_eq k n) (n / 32)) (pos 0)) ≡ s n
    go true e true h f g =
        let no : (true && nat_eq n n) ≡ false = ap (λ b. b && nat_eq n n) (sym e) ∙ f h in
        let yes : (true && nat_eq n n) ≡ true = ap (λ b. true && b) (eq_same n) in
        absurd (cc (no, yes))
    go true e false h f g = ap not h ∙ sym e
    go false e z h f g = ap not (g e) ∙ sym e

-- ---- the words of a set's value

words_at : (n k q : ℕ) (s : ℕ → Bool) → q < n → slice_get (set_words_from n k s) q ≡ Some
    (Some (Number (number_of (bits_from 32 (k + 32 * q) s))))
words_at zero k q s l = absurd (omega (arith, l))
words_at (suc n) k zero s l = let e : k ≡ k + 32 * 0 = omega arith
    in ap (λ j. Some (Some (Number (number_of (bits_from 32 j s))))) e
words_at (suc n) k (suc q) s l = let e : k + 32 + 32 * q ≡ k + 32 * suc q = omega arith in words_at n (k + 32) q s
    (omega (arith, l)) ∙ ap (λ j. Some (Some (Number (number_of (bits_from 32 j s))))) e

pub set_word : (s : ℕ → Bool) (q : ℕ) → q < 8 → slice_get (set_words s) q ≡ Some (Some (Number (set_number s q)))
set_word s q l = let e : 0 + 32 * q ≡ 32 * q = omega arith in words_at 8 0 q s l
    ∙ ap (λ j. Some (Some (Number (number_of (bits_from 32 j s))))) e
