-- Loops over lists, and what they have found so far.
use Rattle.std.proofs.Common.{◌≡◌, ℕ, ℤ, pos, suc, add-one, ◌+◌, ◌<◌, ◌≤◌, max, Bool, true, false, ◌&&◌, List, [], ◌∷◌}
use Rattle.std.proofs.Common.{◌++◌, length, get_or, drop, nat_lt, nat_le, if◌then◌else◌, ◌⊎◌, inl, inr, refl, sym, ap}
use Rattle.std.proofs.Common.{◌∙◌, arith}
use Rattle.std.proofs.Math.Seq.{get_or-append_seam, drop-cons}
use Rattle.std.proofs.Math.ListN.{get_or-append, length-append}
use Rattle.std.proofs.lemmas.List.{get_or_past, drop_all}
use Rattle.std.proofs.lemmas.Bool.{ltb-true, ltb-false, le-leb, lt-leb}
use mathlib.Core.Path.{fun_ext}
use Rattle.ps_tree.specs.declared.tree.operators.SetOperator.{SetOperator}
use Rattle.ps_tree.specs.declared.tree.operators.SetOperator.TheVariants.{Union, Difference, Intersection}
use Rattle.ps_meaning.specs.Values as m
use Rattle.ps_meaning.specs.Operators as o
use Rattle.ps_meaning_runner.specs.declared.value.Value.{Value}
use Rattle.ps_meaning_runner.specs.View.{listed, tested, value_of, values_of}

below_or_at : (i k : ℕ) → i < k + 1 → (i < k) ⊎ (i ≡ k)
below_or_at i k lt = cases (nat_lt i k) refl
  where
    cases : (b : Bool) → nat_lt i k ≡ b → (i < k) ⊎ (i ≡ k)
    cases true e = inl (ltb-true i k e)
    cases false e = inr (let le : k ≤ i = ltb-false i k e in omega arith)

-- the tests of a set that an operator gives, up to a number
pub record Combined (operator : SetOperator) (a b : List Bool) (i : ℕ) (tests : List Bool) : Type 0 where
  pub many : length tests ≡ i
  pub each : (k : ℕ) → k < i → listed tests k ≡ o.combine_sets operator (listed a) (listed b) k

pub combined_none : (operator : SetOperator) (a b : List Bool) → Combined operator a b 0 []
combined_none operator a b = record { many = refl; each = λ k lt. absurd (omega arith) }

tested_is : (operator : SetOperator) (a b : List Bool) (k : ℕ) → tested operator (listed a k) (listed b k)
    ≡ o.combine_sets operator (listed a) (listed b) k
tested_is Union a b k = refl
tested_is Difference a b k = refl
tested_is Intersection a b k = refl

pub combined_next : (operator : SetOperator) (a b : List Bool) (i : ℕ) (tests : List Bool) (x : Bool) → x
    ≡ tested operator (listed a i) (listed b i) → Combined operator a b i tests → Combined operator a b (i + 1)
    (tests ++ x ∷ [])
combined_next operator a b i tests x at h =
    record {
      many = let l : length tests ≡ i = h.many in simp (length-append) (omega (arith, l));
      each = λ k lt. below k (below_or_at k i lt);
    }
  where
    below : (k : ℕ) → (k < i) ⊎ (k ≡ i) → listed (tests ++ x ∷ []) k ≡ o.combine_sets operator (listed a) (listed b) k
    below k (inl lt) = let l : k < length tests = omega (arith, h.many) in get_or-append tests (x ∷ []) false k l
        ∙ h.each k lt
    below k (inr e) = ap (λ j. listed (tests ++ x ∷ []) j) (e ∙ sym h.many) ∙ get_or-append_seam tests x [] false ∙ at
        ∙ tested_is operator a b i ∙ ap (λ j. o.combine_sets operator (listed a) (listed b) j) (sym e)

nothing_past : (operator : SetOperator) (a b : List Bool) (k : ℕ) → length a ≤ k → length b ≤ k
    → o.combine_sets operator (listed a) (listed b) k ≡ false
nothing_past operator a b k p q =
    sym (tested_is operator a b k) ∙ ap (λ x. tested operator x (listed b k)) (get_or_past a k false p)
    ∙ ap (λ x. tested operator false x) (get_or_past b k false q) ∙ none operator
  where
    none : (operator : SetOperator) → tested operator false false ≡ false
    none Union = refl
    none Difference = refl
    none Intersection = refl

pub combined_all : (operator : SetOperator) (a b : List Bool) (i : ℕ) (tests : List Bool) → max (length a)
    (length b) ≤ i → Combined operator a b i tests → listed tests ≡ o.combine_sets operator (listed a) (listed b)
combined_all operator a b i tests past h = fun_ext (λ k. each k (nat_lt k i) refl)
  where
    each : (k : ℕ) (t : Bool) → nat_lt k i ≡ t → listed tests k ≡ o.combine_sets operator (listed a) (listed b) k
    each k true e = h.each k (ltb-true k i e)
    each k false e =
        let le : i ≤ k = ltb-false k i e in
        get_or_past tests k false (omega (arith, h.many)) ∙ sym
        (nothing_past operator a b k (omega arith) (omega arith))

-- the tests of an interval, up to a number
pub record Spanned (low i : ℕ) (tests : List Bool) : Type 0 where
  pub many : length tests ≡ i
  pub each : (k : ℕ) → k < i → listed tests k ≡ nat_le low k

pub interval_none : (low : ℕ) → Spanned low 0 []
interval_none low = record { many = refl; each = λ k lt. absurd (omega arith) }

pub interval_next : (low i : ℕ) (tests : List Bool) (x : Bool) → x ≡ nat_le low i → Spanned low i tests → Spanned low
    (i + 1) (tests ++ x ∷ [])
interval_next low i tests x at h =
    record {
      many = let l : length tests ≡ i = h.many in simp (length-append) (omega (arith, l));
      each = λ k lt. below k (below_or_at k i lt);
    }
  where
    below : (k : ℕ) → (k < i) ⊎ (k ≡ i) → listed (tests ++ x ∷ []) k ≡ nat_le low k
    below k (inl lt) = let l : k < length tests = omega (arith, h.many) in get_or-append tests (x ∷ []) false k l
        ∙ h.each k lt
    below k (inr e) = ap (λ j. listed (tests ++ x ∷ []) j) (e ∙ sym h.many) ∙ get_or-append_seam tests x [] false ∙ at
        ∙ ap (nat_le low) (sym e)

pub interval_all : (low high : ℕ) (tests : List Bool) → Spanned low (high + 1) tests → listed tests ≡ o.interval
    (pos low) (pos high)
interval_all low high tests h = fun_ext (λ k. each k (nat_lt k (high + 1)) refl)
  where
    and_true : (b : Bool) → b ≡ (b && true)
    and_true true = refl
    and_true false = refl

    and_false : (b : Bool) → false ≡ (b && false)
    and_false true = refl
    and_false false = refl

    each : (k : ℕ) (t : Bool) → nat_lt k (high + 1) ≡ t → listed tests k ≡ (nat_le low k && nat_le k high)
    each k true e =
        let lt : k < high + 1 = ltb-true k (high + 1) e in
        h.each k lt ∙ and_true (nat_le low k) ∙ ap (λ b. nat_le low k && b) (sym (le-leb k high (omega arith)))
    each k false e =
        let le : high + 1 ≤ k = ltb-false k (high + 1) e in
        get_or_past tests k false (omega (arith, h.many)) ∙ and_false (nat_le low k) ∙ ap (λ b. nat_le low k && b)
        (sym (lt-leb k high (omega arith)))

-- strings, from a place on
values_here : (xs : List Value) (i : ℕ) (x : Value) → i < length xs → x ≡ get_or xs i x → values_of (drop i xs)
    ≡ m.value_before (value_of x) (values_of (drop (i + 1) xs))
unfolding values_of
values_here xs i x lt at = ap values_of (drop-cons xs i x lt)
    ∙ ap (λ y. m.value_before (value_of y) (values_of (drop (suc i) xs))) (sym at)
    ∙ ap (λ j. m.value_before (value_of x) (values_of (drop j xs))) (sym (add-one i))

no_difference : (xs : m.Values) → o.first_difference xs m.no_value ≡ (pos 0, pos 0)
no_difference m.no_value = refl
no_difference (m.value_before v rest) = refl

-- no difference where one of the strings is over
pub difference_past : (a b : List Value) (i : ℕ) → (length a ≤ i) ⊎ (length b ≤ i) → o.first_difference
    (values_of (drop i a)) (values_of (drop i b)) ≡ (pos 0, pos 0)
unfolding values_of
difference_past a b i (inl le) = ap (λ l. o.first_difference (values_of l) (values_of (drop i b))) (drop_all i a le)
difference_past a b i (inr le) = ap (λ l. o.first_difference (values_of (drop i a)) (values_of l)) (drop_all i b le)
    ∙ no_difference (values_of (drop i a))

difference_here : (a b : List Value) (i : ℕ) (x y : Value) → i < length a → i < length b → x ≡ get_or a i x → y
    ≡ get_or b i y → o.first_difference (values_of (drop i a)) (values_of (drop i b))
    ≡ (if o.is_equal (m.number_of (value_of x)) (m.number_of (value_of y)) then o.first_difference
    (values_of (drop (i + 1) a)) (values_of (drop (i + 1) b)) else (m.number_of (value_of x), m.number_of (value_of y)))
difference_here a b i x y la lb at au =
    ap (λ l. o.first_difference l (values_of (drop i b))) (values_here a i x la at)
    ∙ ap (λ l. o.first_difference (m.value_before (value_of x) (values_of (drop (i + 1) a))) l)
    (values_here b i y lb au)

numbers_equal : (x y : Value) (l r : ℤ) (t : Bool) → l ≡ m.number_of (value_of x) → r ≡ m.number_of (value_of y)
    → o.is_equal l r ≡ t → o.is_equal (m.number_of (value_of x)) (m.number_of (value_of y)) ≡ t
numbers_equal x y l r t el er is = sym (ap (λ z. o.is_equal z r) el ∙ ap (o.is_equal (m.number_of (value_of x))) er)
    ∙ is

pub difference_same : (a b : List Value) (i : ℕ) (x y : Value) (l r : ℤ) → i < length a → i < length b → x
    ≡ get_or a i x → y ≡ get_or b i y → l ≡ m.number_of (value_of x) → r ≡ m.number_of (value_of y) → o.is_equal l r
    ≡ true → o.first_difference (values_of (drop (i + 1) a)) (values_of (drop (i + 1) b)) ≡ o.first_difference
    (values_of (drop i a)) (values_of (drop i b))
difference_same a b i x y l r la lb at au el er same =
    sym (difference_here a b i x y la lb at au
    ∙ ap (λ t. if t then o.first_difference (values_of (drop (i + 1) a)) (values_of (drop (i + 1) b))
    else (m.number_of (value_of x), m.number_of (value_of y))) (numbers_equal x y l r true el er same))

pub difference_other : (a b : List Value) (i : ℕ) (x y : Value) (l r : ℤ) → i < length a → i < length b → x
    ≡ get_or a i x → y ≡ get_or b i y → l ≡ m.number_of (value_of x) → r ≡ m.number_of (value_of y) → o.is_equal l r
    ≡ false → o.first_difference (values_of (drop i a)) (values_of (drop i b)) ≡ (l, r)
difference_other a b i x y l r la lb at au el er other =
    difference_here a b i x y la lb at au ∙ ap (λ t. if t then o.first_difference (values_of (drop (i + 1) a))
    (values_of (drop (i + 1) b)) else (m.number_of (value_of x), m.number_of (value_of y)))
    (numbers_equal x y l r false el er other) ∙ sym
    (ap (λ z. (z, r)) el ∙ ap (λ z. (m.number_of (value_of x), z)) er)
