-- Integers that lie above one another, and how far: the number of a component is below the count of its array.
use Rattle.std.proofs.Common.{◌≡◌, ℕ, zero, suc, ◌+◌, ◌-◌, ◌<◌, ◌≤◌, ℤ, pos, negsuc, ◌-ℤ◌, unsigned_abs, int_lt}
use Rattle.std.proofs.Common.{int_le, Bool, true, false, not, nat_lt, nat_le, if◌then◌else◌, refl, sym, ap, ◌∙◌}
use Rattle.std.proofs.Common.{arith, ltb-true, ltb-false, leb-true, le-leb}
use Rattle.std.proofs.lemmas.Bool.{and_parts}
use Rattle.ps_tree.specs.declared.types.Ordinal.{Ordinal}
use Rattle.ps_tree.specs.Sizes.{value_count}
use Rattle.ps_meaning.specs.Operators.{is_between}

pub same_test : (a b : Bool) → (a ≡ true → b ≡ true) → (b ≡ true → a ≡ true) → a ≡ b
same_test true true f g = refl
same_test true false f g = sym (f refl)
same_test false true f g = g refl
same_test false false f g = refl

pub not_below : (n m : ℕ) → nat_le n m ≡ not (nat_lt m n)
not_below n m = go (nat_lt m n) refl
  where
    go : (b : Bool) → nat_lt m n ≡ b → nat_le n m ≡ not b
    go true e = same_test (nat_le n m) false (λ f. let l = leb-true n m f in let h = ltb-true m n e in absurd
        (omega arith)) (λ f. absurd (cc))
    go false e = let h = ltb-false m n e in le-leb n m (omega arith)

-- what is not above
pub at_most : (x y : ℤ) → int_le x y ≡ not (int_lt y x)
at_most (pos a) (pos b) = not_below a b
at_most (pos a) (negsuc b) = refl
at_most (negsuc a) (pos b) = refl
at_most (negsuc a) (negsuc b) = not_below b a

-- how far the second number is above the first
abbrev pub gap : ℤ → ℤ → ℕ
gap (pos a) (pos b) = b - a
gap (pos a) (negsuc b) = 0
gap (negsuc a) (pos b) = b + suc a
gap (negsuc a) (negsuc b) = suc a - suc b

pub gap_is : (a b : ℤ) → int_le a b ≡ true → b -ℤ a ≡ pos (gap a b)
gap_is (pos zero) (pos b) e = let z : b + 0 ≡ b - 0 = omega arith in ap pos z
gap_is (pos (suc a)) (pos b) e =
    let l = leb-true (suc a) b e in
    let n : nat_lt b (suc a) ≡ false = go (nat_lt b (suc a)) refl l in
    ap (λ t. if t then negsuc (suc a - suc b) else pos (b - suc a)) n
  where
    go : (t : Bool) → nat_lt b (suc a) ≡ t → suc a ≤ b → t ≡ false
    go true q l = let r = ltb-true b (suc a) q in absurd (omega arith)
    go false q l = refl
gap_is (pos a) (negsuc b) e = absurd (cc)
gap_is (negsuc a) (pos b) e = refl
gap_is (negsuc a) (negsuc b) e =
    let l = leb-true b a e in
    let n : nat_lt (suc a) (suc b) ≡ false = go (nat_lt (suc a) (suc b)) refl l in
    ap (λ t. if t then negsuc (suc b - suc (suc a)) else pos (suc a - suc b)) n
  where
    go : (t : Bool) → nat_lt (suc a) (suc b) ≡ t → b ≤ a → t ≡ false
    go true q l = let r = ltb-true (suc a) (suc b) q in absurd (omega arith)
    go false q l = refl

gap_more : (a b h : ℤ) → int_le a b ≡ true → int_le b h ≡ true → gap a b ≤ gap a h
gap_more (pos a) (pos b) (pos h) e f = let l = leb-true a b e in let m = leb-true b h f in omega (arith, l, m)
gap_more (pos a) (pos b) (negsuc h) e f = absurd (cc)
gap_more (pos a) (negsuc b) h e f = absurd (cc)
gap_more (negsuc a) (pos b) (pos h) e f = let m = leb-true b h f in omega (arith, m)
gap_more (negsuc a) (pos b) (negsuc h) e f = absurd (cc)
gap_more (negsuc a) (negsuc b) (pos h) e f = omega arith
gap_more (negsuc a) (negsuc b) (negsuc h) e f = let l = leb-true b a e in let m = leb-true h b f in omega (arith, l, m)

pub le_through : (a b h : ℤ) → int_le a b ≡ true → int_le b h ≡ true → int_le a h ≡ true
le_through (pos a) (pos b) (pos h) e f = le-leb a h
    (let l = leb-true a b e in let m = leb-true b h f in omega (arith, l, m))
le_through (pos a) (pos b) (negsuc h) e f = absurd (cc)
le_through (pos a) (negsuc b) h e f = absurd (cc)
le_through (negsuc a) (pos b) (pos h) e f = refl
le_through (negsuc a) (pos b) (negsuc h) e f = absurd (cc)
le_through (negsuc a) (negsuc b) (pos h) e f = refl
le_through (negsuc a) (negsuc b) (negsuc h) e f = le-leb h a
    (let l = leb-true b a e in let m = leb-true h b f in omega (arith, l, m))

not_false : (b : Bool) → true ≡ not b → b ≡ false
not_false true e = absurd (cc)
not_false false e = refl

-- the number of an index's component
pub index_number : (index : Ordinal) (z : ℤ) → is_between index.low z index.high ≡ true
    → (z -ℤ index.low ≡ pos (gap index.low z)) × (gap index.low z < value_count index)
index_number index z e =
    let h = and_parts (int_le index.low z) (int_le z index.high) e in
    let whole = le_through index.low z index.high h.0 h.1 in
    let more = gap_more index.low z index.high h.0 h.1 in
    let inside = not_false (int_lt index.high index.low) (sym whole ∙ at_most index.low index.high) in
    let count : value_count index ≡ gap index.low index.high
    + 1 = ap (λ t. if t then 0 else unsigned_abs (index.high -ℤ index.low) + 1) inside
    ∙ ap (λ q. unsigned_abs q + 1) (gap_is index.low index.high whole) in
    (gap_is index.low z h.0, omega (arith, more, count))
