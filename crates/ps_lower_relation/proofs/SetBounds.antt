-- The members of a set that are outside the bounds of a base: what is required of a set that is stored in a variable.
use Rattle.std.proofs.Common.{◌≡◌, ℕ, zero, suc, ◌+◌, ◌-◌, ◌*◌, ◌/◌, ◌%◌, ◌^◌, ◌<◌, ℤ, pos, negsuc, int_le, Bool, true}
use Rattle.std.proofs.Common.{false, not, ◌&&◌, ◌||◌, nat_lt, ltb-true, ltb-false, refl, sym, ap, ◌∙◌, arith, leb-true}
use Rattle.std.proofs.Common.{le-leb}
use Rattle.std.specs.Int.{bit_at}
use Rattle.std.proofs.lemmas.Nat.Bits.{bit_at-zero}
use Rattle.std.proofs.lemmas.Bool.{and_parts, or_parts}
use Rattle.std.proofs.Math.Bool.{or-true, or-false, and-false}
use Rattle.ps_tree.specs.declared.tree.operators.SetOperator.TheVariants.{Union, Intersection}
use Rattle.tac_code.specs.declared.code.BitOperator.TheVariants.{And, Or}
use Rattle.tac_code.specs.Numbers.{number_of, bits, same_number}
use Rattle.ps_meaning.specs.Operators.{all_below, is_between, set_fits}
use Rattle.ps_lower_layout.specs.Words.{bits_from}
use Rattle.ps_lower_code.specs.Values.{holds_all, outside_bits}
use Rattle.ps_lower_code.proofs.Gaps.{same_test}
use Rattle.ps_lower_relation.specs.Sets.{set_number}
use Rattle.ps_lower_relation.proofs.SetWords.{bit_of, bits_bit, bits_both, number_same, numbers_joined, none_in_zero}
use Rattle.ps_lower_relation.proofs.SetWords.{zero_with_none}

-- ---- truths

and_true : (b : Bool) → (b && true) ≡ b
and_true true = refl
and_true false = refl

not_outside : (a b : Bool) → (a && not b) ≡ false → (not a || b) ≡ true
not_outside true true e = refl
not_outside true false e = sym e
not_outside false b e = refl

inside : (a b : Bool) → (not a || b) ≡ true → (a && not b) ≡ false
inside true true e = refl
inside true false e = sym e
inside false b e = refl

-- ---- tests below a number

all_of : (n : ℕ) (f : ℕ → Bool) → ((k : ℕ) → k < n → f k ≡ true) → all_below n f ≡ true
unfolding all_below
all_of zero f h = refl
all_of (suc n) f h = ap (λ b. b && all_below n f) (h n (omega arith)) ∙ all_of n f (λ k l. h k (omega (arith, l)))

each_of : (n : ℕ) (f : ℕ → Bool) → all_below n f ≡ true → (k : ℕ) → k < n → f k ≡ true
unfolding all_below
each_of zero f h k l = absurd (omega (arith, l))
each_of (suc n) f h k l = go (each_of n f parts.1 k) (nat_lt k n) refl
  where
    parts : (f n ≡ true) × (all_below n f ≡ true)
    parts = and_parts (f n) (all_below n f) h

    go : (k < n → f k ≡ true) → (b : Bool) → nat_lt k n ≡ b → f k ≡ true
    go below true e = below (ltb-true k n e)
    go below false e = let m = ltb-false k n e in let last : k ≡ n = omega (arith, l, m) in ap f last ∙ parts.0

-- ---- bits

no_bit : (n k i : ℕ) (s : ℕ → Bool) → i < n → bits_from n k s ≡ 0 → s (k + i) ≡ false
no_bit n k i s l e = go (s (k + i)) (sym (bits_bit n k i s l) ∙ ap (λ m. bit_at m i) e ∙ bit_at-zero i)
  where
    go : (b : Bool) → bit_of b ≡ 0 → b ≡ false
    go true e = absurd (omega (arith, e))
    go false e = refl

bits_shifted : (n k j : ℕ) (s : ℕ → Bool) → bits_from n (k + j) s ≡ bits_from n j (λ i. s (k + i))
bits_shifted zero k j s = refl
bits_shifted (suc n) k j s = let e : suc (k + j) ≡ k + suc j = omega arith in ap (λ m. bit_of (s (k + j)) + 2 * m)
    (ap (λ m. bits_from n m s) e ∙ bits_shifted n k (suc j) s)

-- a word's members as those of the first
first_word : (s : ℕ → Bool) (q : ℕ) → set_number s q ≡ set_number (λ i. s (32 * q + i)) 0
first_word s q = let z : 32 * q ≡ 32 * q + 0 = omega arith in ap number_of
    (ap (λ m. bits_from 32 m s) z ∙ bits_shifted 32 (32 * q) 0 s)

module _ (low high : ℤ) where
  abbrev pub outside : ℕ → Bool
  outside k = not (is_between low (pos k) high)

  module _ (s : ℕ → Bool) where
    abbrev pub strays : ℕ → Bool
    strays k = s k && outside k

    -- the members outside that are in the first words, all in one word
    abbrev pub gathered : (words : ℕ) → ℕ → Bool
    gathered zero i = false
    gathered (suc q) i = gathered q i || strays (32 * q + i)

    -- a word that can hold none, one that can hold nothing else, and another
    pub word_without : (q : ℕ) → outside_bits low high q ≡ 0 → set_number (gathered q) 0 ≡ set_number
        (gathered (suc q)) 0
    unfolding outside_bits
    word_without q e = number_same (gathered q) (gathered (suc q)) 0 (λ i l. none (0 + i) (omega (arith, l)))
      where
        none : (i : ℕ) → i < 32 → gathered q i ≡ (gathered q i || strays (32 * q + i))
        none i l =
            let o = no_bit 32 (32 * q) i outside l e in
            sym (ap (λ b. gathered q i || (s (32 * q + i) && b)) o ∙ ap (λ b. gathered q i || b)
            (and-false (s (32 * q + i))) ∙ or-false (gathered q i))

    pub word_whole : (q : ℕ) → outside_bits low high q ≡ 2 ^ 32 - 1 → set_number s q ≡ set_number strays q
    unfolding outside_bits
    word_whole q e = number_same s strays q (λ i l. sym
        (ap (λ b. s (32 * q + i) && b) (all i l) ∙ and_true (s (32 * q + i))))
      where
        all : (i : ℕ) → i < 32 → outside (32 * q + i) ≡ true
        all i l =
            let both = bits_both 32 (32 * q) outside in
            let nothing : bits_from 32 (32 * q) (λ k. not (outside k)) ≡ 0 = omega (arith, both, e) in
            go (outside (32 * q + i)) (no_bit 32 (32 * q) i (λ k. not (outside k)) l nothing)
          where
            go : (b : Bool) → not b ≡ false → b ≡ true
            go true h = refl
            go false h = sym h

    pub word_masked : (q : ℕ) → bits And (set_number s q) (number_of (outside_bits low high q)) ≡ set_number strays q
    unfolding outside_bits
    word_masked q = numbers_joined Intersection s outside q

    pub word_joined : (q : ℕ) → bits Or (set_number (gathered q) 0) (set_number strays q) ≡ set_number
        (gathered (suc q)) 0
    word_joined q = ap (bits Or (set_number (gathered q) 0)) (first_word strays q) ∙ numbers_joined Union (gathered q)
        (λ i. strays (32 * q + i)) 0

    -- ---- all words

    none_gathered : (n i : ℕ) → ((q : ℕ) → q < n → strays (32 * q + i) ≡ false) → gathered n i ≡ false
    none_gathered zero i h = refl
    none_gathered (suc n) i h = ap (λ b. b || strays (32 * n + i)) (none_gathered n i (λ q l. h q (omega (arith, l))))
        ∙ h n (omega arith)

    each_gathered : (n i : ℕ) → gathered n i ≡ false → (q : ℕ) → q < n → strays (32 * q + i) ≡ false
    each_gathered zero i h q l = absurd (omega (arith, l))
    each_gathered (suc n) i h q l = go (each_gathered n i parts.0 q) (nat_lt q n) refl
      where
        parts : (gathered n i ≡ false) × (strays (32 * n + i) ≡ false)
        parts = or_parts (gathered n i) (strays (32 * n + i)) h

        go : (q < n → strays (32 * q + i) ≡ false) → (b : Bool) → nat_lt q n ≡ b → strays (32 * q + i) ≡ false
        go below true e = below (ltb-true q n e)
        go below false e = let m = ltb-false q n e in let last : q ≡ n = omega (arith, l, m)
            in ap (λ j. strays (32 * j + i)) last ∙ parts.1

    pub fits_gathered : same_number (set_number (gathered 8) 0) (pos 0) ≡ set_fits low high s
    fits_gathered = same_test (same_number (set_number (gathered 8) 0) (pos 0)) (set_fits low high s) to from
      where
        to : same_number (set_number (gathered 8) 0) (pos 0) ≡ true → set_fits low high s ≡ true
        to e = all_of 256 (λ k. not (s k) || is_between low (pos k) high)
            (λ k l. not_outside (s k) (is_between low (pos k) high) (one k l))
          where
            one : (k : ℕ) → k < 256 → strays k ≡ false
            one k l =
                let q = k / 32 in
                let i = k % 32 in
                let is : k ≡ 32 * q + i = omega arith in
                let first : i ≡ 0 + i = omega arith in
                ap strays is ∙ each_gathered 8 i (ap (gathered 8) first ∙ none_in_zero (gathered 8) 0 e i (omega arith))
                q (omega (arith, l))

        from : set_fits low high s ≡ true → same_number (set_number (gathered 8) 0) (pos 0) ≡ true
        from e =
            zero_with_none (gathered 8) 0
            (λ i l. none_gathered 8 (0 + i) (λ q b. inside (s (32 * q + (0 + i)))
            (is_between low (pos (32 * q + (0 + i))) high)
            (each_of 256 (λ k. not (s k) || is_between low (pos k) high) e (32 * q + (0 + i))
            (omega (arith, l, b)))))

    -- where every member that a set can have lies within
    pub fits_whole : holds_all low high ≡ true → set_fits low high s ≡ true
    fits_whole e = all_of 256 (λ k. not (s k) || is_between low (pos k) high)
        (λ k l. ap (λ b. not (s k) || b) (ap (λ b. b && int_le (pos k) high) (above low parts.0 k)
        ∙ below high parts.1 k l) ∙ or-true (not (s k)))
      where
        parts : (int_le low (pos 0) ≡ true) × (int_le (pos 255) high ≡ true)
        parts = and_parts (int_le low (pos 0)) (int_le (pos 255) high) e

        above : (low : ℤ) → int_le low (pos 0) ≡ true → (k : ℕ) → int_le low (pos k) ≡ true
        above (pos a) h k = let l = leb-true a 0 h in le-leb a k (omega (arith, l))
        above (negsuc a) h k = refl

        below : (high : ℤ) → int_le (pos 255) high ≡ true → (k : ℕ) → k < 256 → int_le (pos k) high ≡ true
        below (pos b) h k l = let m = leb-true 255 b h in le-leb k b (omega (arith, l, m))
        below (negsuc b) h k l = absurd (cc h)
