-- The test of a set against the bounds of a base, piece by piece, and the bits that are outside them.
use Rattle.std.proofs.Common.{◌≡◌, ℕ, zero, suc, ◌+◌, ◌-◌, ◌*◌, ◌^◌, ◌<◌, ◌≤◌, ℤ, pos, negsuc, int_le, Bool, true}
use Rattle.std.proofs.Common.{false, not, ◌&&◌, nat_le, nat_lt, if◌then◌else◌, List, [], ◌∷◌, ◌++◌, Result, OnOk, refl}
use Rattle.std.proofs.Common.{sym, ap, subst, ◌∙◌, arith, leb-true, leb-false, le-leb, ltb-true, ltb-false, le-ltb}
use Rattle.std.proofs.Common.{append_assoc}
use Rattle.std.proofs.Math.Nat.{pow-suc}
use Rattle.std.proofs.lemmas.Bool.{lt-leb}
use Rattle.tac_code.specs.declared.code.Base.{Base}
use Rattle.tac_code.specs.declared.code.Base.TheVariants as base
use Rattle.tac_code.specs.declared.code.Operand.TheVariants as operand
use Rattle.tac_code.specs.declared.code.Relation.TheVariants.{Equal}
use Rattle.tac_code.specs.declared.code.Instruction.{Instruction}
use Rattle.tac_code.specs.declared.code.Instruction.TheVariants as i
use Rattle.ps_meaning.specs.Operators.{is_between}
use Rattle.ps_lower_layout.specs.Words.{bits_from}
use Rattle.ps_lower_code.specs.Scopes.{even_from, words_code}
use Rattle.ps_lower_code.specs.Values.{holds_all, outside_bits, joined_word, outside_code, set_check}
use Rattle.ps_lower.specs.Sets.{filled_code, cleared_code, numbers_below, numbers_to, lowest_bits}
use Rattle.ps_lower.proofs.Appends.{and_then, unchanged}
use Rattle.ps_lower.proofs.Arms.{behind}

-- ---- bits

-- the lowest `count` of n bits
lowest : (n count : ℕ) → ℕ
lowest zero count = 0
lowest (suc n) zero = 0
lowest (suc n) (suc count) = 2 * lowest n count + 1

lowest_more : (n m k : ℕ) → k < m → lowest (suc n) (m - k) ≡ 2 * lowest n (m - suc k) + 1
unfolding lowest
lowest_more n m k l = let e : m - k ≡ suc (m - suc k) = omega (arith, l) in ap (lowest (suc n)) e

lowest_zero : (n : ℕ) → lowest n 0 ≡ 0
unfolding lowest
lowest_zero zero = refl
lowest_zero (suc n) = refl

lowest_empty : (m : ℕ) → lowest 0 m ≡ 0
unfolding lowest
lowest_empty m = refl

lowest_none : (n m k : ℕ) → m ≤ k → lowest n (m - k) ≡ 0
lowest_none n m k l = let e : m - k ≡ 0 = omega (arith, l) in ap (lowest n) e ∙ lowest_zero n

lowest_few : (n m : ℕ) → m ≤ n → lowest n m + 1 ≡ 2 ^ m
unfolding lowest
lowest_few zero m l = let z : m ≡ 0 = omega (arith, l) in ap (λ j. 2 ^ j) (sym z)
lowest_few (suc n) zero l = omega arith
lowest_few (suc n) (suc m) l = let r = lowest_few n m (omega (arith, l)) in let e = pow-suc 2 m in omega (arith, r, e)

lowest_all : (n m : ℕ) → n ≤ m → lowest n m + 1 ≡ 2 ^ n
unfolding lowest
lowest_all zero m l = omega arith
lowest_all (suc n) zero l = absurd (omega (arith, l))
lowest_all (suc n) (suc m) l = let r = lowest_all n m (omega (arith, l)) in let e = pow-suc 2 n in omega (arith, r, e)

lowest_is : (m : ℕ) → lowest_bits m ≡ lowest 32 m
lowest_is m = go (nat_lt m 32) refl
  where
    go : (b : Bool) → nat_lt m 32 ≡ b → (if b then 2 ^ m - 1 else 4294967295) ≡ lowest 32 m
    go true e = let l = ltb-true m 32 e in let r = lowest_few 32 m (omega (arith, l)) in omega (arith, r)
    go false e = let l = ltb-false m 32 e in let r = lowest_all 32 m (omega (arith, l)) in omega (arith, r)

-- the bits from k on outside those from a to below b
outside_sum : (n k a b : ℕ) (s : ℕ → Bool) → ((j : ℕ) → s j ≡ not (nat_le a j && nat_lt j b)) → bits_from n k s
    + (lowest n (b - k) - lowest n (a - k)) + 1 ≡ 2 ^ n
outside_sum zero k a b s h = let z = lowest_empty (b - k) in let z' = lowest_empty (a - k) in omega (arith, z, z')
outside_sum (suc n) k a b s h = go (nat_le a k) refl (nat_lt k b) refl (outside_sum n (suc k) a b s h)
  where
    R : ℕ
    R = bits_from n (suc k) s

    told : (p q : Bool) → nat_le a k ≡ p → nat_lt k b ≡ q → s k ≡ not (p && q)
    told p q e f = h k ∙ ap (λ x. not (x && nat_lt k b)) e ∙ ap (λ x. not (p && x)) f

    bit : (c : Bool) → s k ≡ c → bits_from (suc n) k s ≡ (if c then 1 else 0) + 2 * R
    bit c e = ap (λ x. (if x then 1 else 0) + 2 * bits_from n (suc k) s) e

    go : (p : Bool) → nat_le a k ≡ p → (q : Bool) → nat_lt k b ≡ q → bits_from n (suc k) s
        + (lowest n (b - suc k) - lowest n (a - suc k)) + 1 ≡ 2 ^ n → bits_from (suc n) k s
        + (lowest (suc n) (b - k) - lowest (suc n) (a - k)) + 1 ≡ 2 ^ suc n
    go true e true f r =
        let l = leb-true a k e in
        let m = ltb-true k b f in
        let x = bit false (told true true e f) in
        let y = lowest_more n b k m in
        let z = lowest_none (suc n) a k l in
        let z' = lowest_none n a (suc k) (omega (arith, l)) in
        let p = pow-suc 2 n in
        omega (arith, r, x, y, z, z', p)
    go true e false f r =
        let l = leb-true a k e in
        let m = ltb-false k b f in
        let x = bit true (told true false e f) in
        let y = lowest_none (suc n) b k m in
        let y' = lowest_none n b (suc k) (omega (arith, m)) in
        let p = pow-suc 2 n in
        omega (arith, r, x, y, y', p)
    go false e true f r =
        let l = leb-false a k e in
        let m = ltb-true k b f in
        let x = bit true (told false true e f) in
        let y = lowest_more n b k m in
        let z = lowest_more n a k l in
        let p = pow-suc 2 n in
        omega (arith, r, x, y, z, p)
    go false e false f r =
        let m = ltb-false k b f in
        let x = bit true (told false false e f) in
        let y = lowest_none (suc n) b k m in
        let y' = lowest_none n b (suc k) (omega (arith, m)) in
        let p = pow-suc 2 n in
        omega (arith, r, x, y, y', p)

outside_is : (low high : ℤ) (q : ℕ) → 4294967295 -
    (lowest_bits (numbers_to high - 32 * q) - lowest_bits (numbers_below low - 32 * q)) ≡ outside_bits low high q
unfolding outside_bits
outside_is low high q =
    let r = outside_sum 32 (32 * q) (numbers_below low) (numbers_to high) (λ k. not (is_between low (pos k) high))
    (λ j. ap (λ x. not (x && int_le (pos j) high)) (from low j) ∙ ap (λ x. not (nat_le (numbers_below low) j && x))
    (to high j)) in
    let x = lowest_is (numbers_to high - 32 * q) in
    let y = lowest_is (numbers_below low - 32 * q) in
    omega (arith, r, x, y)
  where
    from : (low : ℤ) (j : ℕ) → int_le low (pos j) ≡ nat_le (numbers_below low) j
    from (pos n) j = refl
    from (negsuc n) j = sym (le-leb 0 j (omega arith))

    to : (high : ℤ) (j : ℕ) → int_le (pos j) high ≡ nat_lt j (numbers_to high)
    to (pos n) j = go (nat_lt j (suc n)) refl
      where
        go : (b : Bool) → nat_lt j (suc n) ≡ b → nat_le j n ≡ b
        go true e = let l = ltb-true j (suc n) e in le-leb j n (omega (arith, l))
        go false e = let l = ltb-false j (suc n) e in lt-leb j n (omega (arith, l))
    to (negsuc n) j = sym (le-ltb j 0 (omega arith))

pub outside_made : (low high : ℤ) (q a b to below inside : ℕ) → a ≡ numbers_to high - 32 * q → to ≡ lowest_bits a → b
    ≡ numbers_below low - 32 * q → below ≡ lowest_bits b → inside ≡ to - below → 4294967295 - inside
    ≡ outside_bits low high q
outside_made low high q a b to below inside e f g h i =
    ap (λ n. 4294967295 - n) (i ∙ ap (λ n. n - below) (f ∙ ap lowest_bits e)
    ∙ ap (λ n. lowest_bits (numbers_to high - 32 * q) - n) (h ∙ ap lowest_bits g)) ∙ outside_is low high q

-- ---- code

-- one more word
pub outside_next : (low high : ℤ) (t x n m p mask : ℕ) (old middle new : List Instruction) → m ≡ suc n → p ≡ x + 4 * n
    → mask ≡ outside_bits low high n → middle ≡ old ++ outside_code low high t x n → new ≡ middle
    ++ joined_word t p mask → new ≡ old ++ outside_code low high t x m
unfolding outside_code
outside_next low high t x n m p mask old middle new is at e h s =
    and_then old middle new (outside_code low high t x n) (joined_word t (x + 4 * n) (outside_bits low high n)) h
    (s ∙ ap (λ y. middle ++ joined_word t y mask) at ∙ ap (λ y. middle ++ joined_word t (x + 4 * n) y) e)
    ∙ ap (λ y. old ++ outside_code low high t x y) (sym is)

pub outside_start : (low high : ℤ) (t x : ℕ) (old : List Instruction) → old ≡ old ++ outside_code low high t x 0
unfolding outside_code
outside_start low high t x old = unchanged old

pub outside_end : (low high : ℤ) (t x n : ℕ) (old now : List Instruction) → n ≡ 8 → now ≡ old
    ++ outside_code low high t x n → now ≡ old ++ outside_code low high t x 8
outside_end low high t x n old now e h = h ∙ ap (λ y. old ++ outside_code low high t x y) e

-- ---- words from one place to another, one by one

words_further : (to : Base) (o : ℕ) (from : Base) (p v n : ℕ) → words_code to o from p v (suc n)
    ≡ words_code to o from p v n ++ i.Load v from (p + 4 * n) ∷ i.Store to (o + 4 * n) v ∷ []
unfolding words_code
words_further to o from p v zero =
    let e : p ≡ p + 4 * 0 = omega arith in
    let f : o ≡ o + 4 * 0 = omega arith in
    ap (λ y. i.Load v from y ∷ i.Store to o v ∷ []) e ∙ ap (λ y. i.Load v from (p + 4 * 0) ∷ i.Store to y v ∷ []) f
words_further to o from p v (suc n) =
    let e : p + 4 + 4 * n ≡ p + 4 * suc n = omega arith in
    let f : o + 4 + 4 * n ≡ o + 4 * suc n = omega arith in
    ap (λ l. i.Load v from p ∷ i.Store to o v ∷ l)
    (words_further to (o + 4) from (p + 4) v n
    ∙ ap (λ y. words_code to (o + 4) from (p + 4) v n ++ i.Load v from y ∷ i.Store to (o + 4 + 4 * n) v ∷ []) e
    ∙ ap (λ y. words_code to (o + 4) from (p + 4) v n ++ i.Load v from (p + 4 * suc n) ∷ i.Store to y v ∷ []) f)

pub words_start : (to : Base) (o : ℕ) (from : Base) (p v : ℕ) (old : List Instruction) → old ≡ old
    ++ words_code to o from p v 0
unfolding words_code
words_start to o from p v old = unchanged old

pub words_next : (to : Base) (o : ℕ) (from : Base) (p v n m a b : ℕ) (old now middle new : List Instruction) → m ≡ suc n
    → a ≡ p + 4 * n → b ≡ o + 4 * n → now ≡ old ++ words_code to o from p v n → middle ≡ now ++ i.Load v from a ∷ []
    → new ≡ middle ++ i.Store to b v ∷ [] → new ≡ old ++ words_code to o from p v m
words_next to o from p v n m a b old now middle new is at there h l s =
    and_then old now new (words_code to o from p v n) (i.Load v from (p + 4 * n) ∷ i.Store to (o + 4 * n) v ∷ []) h
    (and_then now middle new (i.Load v from (p + 4 * n) ∷ []) (i.Store to (o + 4 * n) v ∷ [])
    (l ∙ ap (λ y. now ++ i.Load v from y ∷ []) at) (s ∙ ap (λ y. middle ++ i.Store to y v ∷ []) there))
    ∙ ap (λ l. old ++ l) (sym (words_further to o from p v n)) ∙ ap (λ y. old ++ words_code to o from p v y) (sym is)

pub words_end : (to : Base) (o : ℕ) (from : Base) (p v n : ℕ) (old now : List Instruction) → n ≡ 8 → now ≡ old
    ++ words_code to o from p v n → now ≡ old ++ words_code to o from p v 8
words_end to o from p v n old now e h = h ∙ ap (λ y. old ++ words_code to o from p v y) e

-- ---- a set without members, word by word

pub clear_start : (t x : ℕ) (old now : List Instruction) → now ≡ old ++ i.Literal t (pos 0) ∷ [] → now ≡ old
    ++ i.Literal t (pos 0) ∷ filled_code t x 0
unfolding filled_code
clear_start t x old now h = h

pub clear_next : (t x n m p : ℕ) (old middle new : List Instruction) → m ≡ suc n → p ≡ x + 4 * n → middle ≡ old
    ++ i.Literal t (pos 0) ∷ filled_code t x n → new ≡ middle ++ i.Store base.Scratch p t ∷ [] → new ≡ old
    ++ i.Literal t (pos 0) ∷ filled_code t x m
unfolding filled_code
clear_next t x n m p old middle new is at h s =
    and_then old middle new (i.Literal t (pos 0) ∷ filled_code t x n) (i.Store base.Scratch (x + 4 * n) t ∷ []) h
    (s ∙ ap (λ y. middle ++ i.Store base.Scratch y t ∷ []) at)
    ∙ ap (λ y. old ++ i.Literal t (pos 0) ∷ filled_code t x y) (sym is)

pub clear_end : (t x n : ℕ) (old now : List Instruction) → n ≡ 8 → now ≡ old ++ i.Literal t (pos 0) ∷ filled_code t x n
    → now ≡ old ++ cleared_code t x
unfolding filled_code
clear_end t x n old now e h =
    h ∙ ap (λ y. old ++ i.Literal t (pos 0) ∷ filled_code t x y) e
    ∙ ap
    (λ y. old ++ i.Literal t (pos 0) ∷ i.Store base.Scratch y t ∷ i.Store base.Scratch (x + 4) t ∷ i.Store base.Scratch
    (x + 8) t ∷ i.Store base.Scratch (x + 12) t ∷ i.Store base.Scratch (x + 16) t ∷ i.Store base.Scratch (x + 20) t
    ∷ i.Store base.Scratch (x + 24) t ∷ i.Store base.Scratch (x + 28) t ∷ [])
    (let z : x + 4 * 0 ≡ x = omega arith in z)

-- ---- the whole test

abbrev pub checked : (t x : ℕ) (low high : ℤ) (line : ℕ) → List Instruction
checked t x low high line = i.Literal t (pos 0) ∷ outside_code low high t x 8 ++ i.Branch Equal t
    (operand.Number (pos 0)) 1 ∷ i.Trap 8 line ∷ []

pub checked_made : {X E : Type 0} (t x : ℕ) (low high : ℤ) (line : ℕ) (b : Bool) (r : Result X E)
    (new o3 o2 o1 old : List Instruction) → b ≡ holds_all low high → b ≡ false → o1 ≡ old ++ i.Literal t (pos 0) ∷ []
    → o2 ≡ o1 ++ outside_code low high t x 8 → o3 ≡ o2 ++ i.Branch Equal t (operand.Number (pos 0)) 1 ∷ [] → OnOk r
    (new ≡ o3 ++ i.Trap 8 line ∷ []) → OnOk r (new ≡ old ++ set_check t x low high line)
checked_made t x low high line b r new o3 o2 o1 old e is p q s h =
    let found = i.Literal t (pos 0) ∷ outside_code low high t x 8 in
    let passed = i.Branch Equal t (operand.Number (pos 0)) 1 ∷ [] in
    subst (λ c. OnOk r (new ≡ old ++ (if c then [] else checked t x low high line))) (sym is ∙ e)
    (subst (λ l. OnOk r (new ≡ old ++ l)) (append_assoc found passed (i.Trap 8 line ∷ []))
    (behind r new o3 old (found ++ passed) (i.Trap 8 line ∷ [])
    (and_then old o2 o3 found passed (and_then old o1 o2 (i.Literal t (pos 0) ∷ [])
    (outside_code low high t x 8) p q) s) h))

pub set_passed : {X E : Type 0} (n x m : ℕ) (low high : ℤ) (line : ℕ) (r : Result X E)
    (new middle old : List Instruction) → m ≡ even_from n → middle ≡ old ++ set_check m x low high line → OnOk r
    (new ≡ middle ++ i.Offset n base.Scratch x 32 ∷ []) → OnOk r
    (new ≡ old ++ (set_check (even_from n) x low high line ++ i.Offset n base.Scratch x 32 ∷ []))
set_passed n x m low high line r new middle old is p h =
    behind r new middle old (set_check (even_from n) x low high line) (i.Offset n base.Scratch x 32 ∷ [])
    (p ∙ ap (λ (y : ℕ). old ++ set_check y x low high line) is) h
