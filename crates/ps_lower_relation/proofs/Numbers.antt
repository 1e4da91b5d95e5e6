-- The operators of the meaning and of the code give the same.
use Rattle.std.proofs.Common.{◌≡◌, ℕ, zero, suc, ◌+◌, ◌-◌, ◌%◌, ◌^◌, ◌<◌, ◌≤◌, ℤ, pos, negsuc, ◌+ℤ◌, ◌-ℤ◌, ◌*ℤ◌, int_lt}
use Rattle.std.proofs.Common.{int_le, int_div, unsigned_abs, Bool, true, false, not, ◌&&◌, nat_lt, nat_le}
use Rattle.std.proofs.Common.{if◌then◌else◌, IsTrue, refl, sym, ap, ◌∙◌, arith, lt-ltb, ltb-true, ltb-false, le-leb}
use Rattle.std.proofs.Common.{leb-true}
use Rattle.std.specs.Int.{int_rem_euclid}
use Rattle.std.proofs.lemmas.Bool.{ne_eqb}
use Rattle.std.proofs.Math.Bool.{not-not}
use Rattle.ps_tree.specs.declared.tree.operators.ArithmeticOperator.{ArithmeticOperator}
use Rattle.ps_tree.specs.declared.tree.operators.ArithmeticOperator.TheVariants.{Add, Subtract, Multiply, Div, Mod}
use Rattle.ps_tree.specs.declared.tree.operators.OrderRelation.{OrderRelation}
use Rattle.ps_tree.specs.declared.tree.operators.OrderRelation.TheVariants as asked
use Rattle.tac_code.specs.declared.code.Relation.{Relation}
use Rattle.tac_code.specs.declared.code.Relation.TheVariants.{Equal, NotEqual, Less, LessEqual, Greater, GreaterEqual}
use Rattle.tac_code.specs.Numbers.{is_integer, is_zero, same_number, compared, is_in_range, number_of, bits, within}
use Rattle.tac_code.specs.Numbers.{computed, Computed as Given, Gives, Fails, truth as truth_word}
use Rattle.ps_meaning.specs.Operators.{Computed, Result, Fault, is_equal, is_between, integer, modulo, compute, truth}
use Rattle.ps_meaning.specs.Operators.{is_true, holds}
use Rattle.ps_tree.specs.declared.tree.operators.Direction.{Direction}
use Rattle.ps_tree.specs.declared.tree.operators.Direction.TheVariants.{To, Downto}
use Rattle.tac_code.specs.declared.code.BitOperator.TheVariants.{Plus}
use Rattle.tac_code.specs.declared.code.TheConstants.{NUMBER_LIMIT}
use Rattle.ps_meaning.specs.Statements.{succeeding}
use Rattle.ps_lower_code.proofs.Gaps.{same_test, not_below, at_most}
use Rattle.ps_lower_code.specs.Statements.{step_number}
use Rattle.ps_lower_code.specs.Scopes.{least, greatest}
use Rattle.ps_lower_code.specs.Values.{operator_of, relation_of, opposite}

-- ---- tests

pub is_so : {b : Bool} → IsTrue b → b ≡ true
is_so h = h

pub so_is : {b : Bool} → b ≡ true → IsTrue b
so_is e = e

below_or : (n m : ℕ) → nat_le n m ≡ nat_lt n (suc m)
below_or n m = same_test (nat_le n m) (nat_lt n (suc m)) (λ e. let l = leb-true n m e in lt-ltb n (suc m) (omega arith))
    (λ e. let l = ltb-true n (suc m) e in le-leb n m (omega arith))

pub in_range : (low x high : ℤ) → is_in_range low high x ≡ is_between low x high
in_range low x high = ap (λ b. b && not (int_lt high x)) (sym (at_most low x)) ∙ ap (λ b. int_le low x && b)
    (sym (at_most x high))

pub between_integers : (x : ℤ) → is_between least x greatest ≡ is_integer x
between_integers (pos n) = below_or n (NUMBER_LIMIT - 1)
between_integers (negsuc n) = ap (λ b. b && true) (below_or n (NUMBER_LIMIT - 1)) ∙ and_true (nat_lt n NUMBER_LIMIT)
  where
    and_true : (b : Bool) → (b && true) ≡ b
    and_true true = refl
    and_true false = refl

pub same_numbers : (x y : ℤ) → same_number x y ≡ is_equal x y
same_numbers (pos a) (pos b) = refl
same_numbers (pos a) (negsuc b) = refl
same_numbers (negsuc a) (pos b) = refl
same_numbers (negsuc a) (negsuc b) = refl

zero_test : (y : ℤ) → is_zero y ≡ is_equal y (pos 0)
zero_test (pos zero) = refl
zero_test (pos (suc n)) = let ne : suc n ≡ 0 → ⊥ = λ e. omega arith in sym (ne_eqb (suc n) 0 ne)
zero_test (negsuc n) = refl

-- ---- truths

pub truths : (b : Bool) → truth_word b ≡ truth b
truths true = refl
truths false = refl

pub truth_is : (b : Bool) → is_true (truth b) ≡ b
truth_is true = refl
truth_is false = refl

pub truth_integer : (b : Bool) → IsTrue (is_integer (truth b))
truth_integer true = refl
truth_integer false = refl

pub unlike_zero : (x : ℤ) → compared NotEqual x (pos 0) ≡ is_true x
unlike_zero x = ap not (same_numbers x (pos 0))

-- ---- relations

pub related_same : (r : OrderRelation) (x y : ℤ) → compared (relation_of r) x y ≡ holds r x y
related_same asked.Equal x y = same_numbers x y
related_same asked.Different x y = ap not (same_numbers x y)
related_same asked.Less x y = refl
related_same asked.Greater x y = refl
related_same asked.AtMost x y = sym (at_most x y)
related_same asked.AtLeast x y = sym (at_most y x)

pub opposite_compares : (r : Relation) (x y : ℤ) → compared (opposite r) x y ≡ not (compared r x y)
opposite_compares Equal x y = refl
opposite_compares NotEqual x y = sym (not-not (same_number x y))
opposite_compares Less x y = refl
opposite_compares LessEqual x y = sym (not-not (int_lt y x))
opposite_compares Greater x y = refl
opposite_compares GreaterEqual x y = sym (not-not (int_lt x y))

-- ---- arithmetic

-- what was computed, in the code's words
abbrev pub as_given : Computed → Given
as_given (Result z) = Gives z
as_given (Fault n) = Fails n

within_same : (z : ℤ) → within 1 z ≡ as_given (integer z)
within_same z = go (is_integer z) refl
  where
    go : (b : Bool) → is_integer z ≡ b → within 1 z ≡ as_given (integer z)
    go true e = ap (λ b. if b then Gives z else Fails 1) e ∙ ap (λ b. as_given (if b then Result z else Fault 1))
        (sym (between_integers z ∙ e))
    go false e = ap (λ b. if b then Gives z else Fails 1) e ∙ ap (λ b. as_given (if b then Result z else Fault 1))
        (sym (between_integers z ∙ e))

choose_given : (b : Bool) (x y : Computed) → (if b then as_given x else as_given y) ≡ as_given (if b then x else y)
choose_given true x y = refl
choose_given false x y = refl

divides : (x y : ℤ) → computed (operator_of Div) 1 x y ≡ as_given (compute Div x y)
divides x y =
    ap (λ b. if b then Fails 2 else within 1 (int_div x y)) (zero_test y)
    ∙ ap (λ g. if is_equal y (pos 0) then Fails 2 else g) (within_same (int_div x y))
    ∙ choose_given (is_equal y (pos 0)) (Fault 2) (integer (int_div x y))

remainder : (x y : ℤ) (n : ℕ) → y ≡ pos (suc n) → int_rem_euclid x y ≡ modulo x (unsigned_abs y)
remainder (pos a) y n e = refl
remainder (negsuc a) y n e = ap (λ z. int_rem_euclid (negsuc a) z) e ∙ ap pos (less (a % suc n))
    ∙ ap (λ z. modulo (negsuc a) (unsigned_abs z)) (sym e)
  where
    less : (k : ℕ) → suc n - 1 - k ≡ suc n - suc k
    less k = omega arith

moduloes : (x y : ℤ) → computed (operator_of Mod) 1 x y ≡ as_given (compute Mod x y)
moduloes x (pos zero) = refl
moduloes x (pos (suc n)) =
    let below : nat_lt 0 (suc n) ≡ true = lt-ltb 0 (suc n) (omega arith) in
    let above : nat_le (suc n) 0 ≡ false = not_below (suc n) 0 ∙ ap not below in
    ap (λ b. if b then Gives (int_rem_euclid x (pos (suc n))) else Fails 3) below
    ∙ ap Gives (remainder x (pos (suc n)) n refl)
    ∙ ap (λ b. as_given (if b then Fault 3 else Result (modulo x (suc n)))) (sym above)
moduloes x (negsuc n) = refl

pub computes : (op : ArithmeticOperator) (x y : ℤ) → computed (operator_of op) 1 x y ≡ as_given (compute op x y)
computes Add x y = within_same (x +ℤ y)
computes Subtract x y = within_same (x -ℤ y)
computes Multiply x y = within_same (x *ℤ y)
computes Div x y = divides x y
computes Mod x y = moduloes x y

-- ---- the step of a `for`: the sum modulo 2 ^ 32

signed : (m : ℕ) (z : ℤ) → (m < NUMBER_LIMIT → z ≡ pos m) → (NUMBER_LIMIT ≤ m → z ≡ negsuc (2 ^ 32 - suc m))
    → number_of m ≡ z
signed m z f g = go (nat_lt m NUMBER_LIMIT) refl
  where
    go : (b : Bool) → nat_lt m NUMBER_LIMIT ≡ b → number_of m ≡ z
    go true e = ap (λ b. if b then pos m else negsuc (2 ^ 32 - suc m)) e ∙ sym (f (ltb-true m NUMBER_LIMIT e))
    go false e = ap (λ b. if b then pos m else negsuc (2 ^ 32 - suc m)) e ∙ sym (g (ltb-false m NUMBER_LIMIT e))

step_up : (x : ℤ) → IsTrue (is_integer x) → bits Plus x (pos 1) ≡ succeeding To x
step_up (pos n) h = go (nat_lt n (NUMBER_LIMIT - 1)) refl
  where
    go : (b : Bool) → nat_lt n (NUMBER_LIMIT - 1) ≡ b → bits Plus (pos n) (pos 1)
        ≡ (if b then pos n +ℤ pos 1 else least)
    go true e =
        let l = ltb-true n (NUMBER_LIMIT - 1) e in
        let m : (n + 1) % 2 ^ 32 ≡ n + 1 = omega (arith, l) in
        ap number_of m ∙ signed (n + 1) (pos (n + 1)) (λ q. refl) (λ q. absurd (omega (arith, l, q)))
    go false e =
        let l = ltb-true n NUMBER_LIMIT h in
        let g = ltb-false n (NUMBER_LIMIT - 1) e in
        let m : (n + 1) % 2 ^ 32 ≡ NUMBER_LIMIT = omega (arith, l, g) in
        ap number_of m
step_up (negsuc zero) h = refl
step_up (negsuc (suc n)) h =
    let l = ltb-true (suc n) NUMBER_LIMIT h in
    let m : (2 ^ 32 - suc (suc n) + 1) % 2 ^ 32 ≡ 2 ^ 32 - suc n = omega (arith, l) in
    let back : 2 ^ 32 - suc (2 ^ 32 - suc n) ≡ n = omega (arith, l) in
    let less : nat_lt 1 (suc (suc n)) ≡ true = lt-ltb 1 (suc (suc n)) (omega arith) in
    let plain : suc (suc n) - suc 1 ≡ n = omega arith in
    ap number_of m ∙ signed (2 ^ 32 - suc n) (negsuc n) (λ q. absurd (omega (arith, l, q)))
    (λ q. ap negsuc (sym back))
    ∙ sym (ap (λ b. if b then negsuc (suc (suc n) - suc 1) else pos (1 - suc (suc n))) less ∙ ap negsuc plain)

step_down : (x : ℤ) → IsTrue (is_integer x) → bits Plus x (negsuc 0) ≡ succeeding Downto x
step_down (pos zero) h = refl
step_down (pos (suc n)) h =
    let l = ltb-true (suc n) NUMBER_LIMIT h in
    let m : (suc n + (2 ^ 32 - 1)) % 2 ^ 32 ≡ n = omega (arith, l) in
    let less : nat_lt (suc n) 1 ≡ false = go (nat_lt (suc n) 1) refl in
    let plain : suc n - 1 ≡ n = omega arith in
    ap number_of m ∙ signed n (pos n) (λ q. refl) (λ q. absurd (omega (arith, l, q)))
    ∙ sym (ap (λ b. if b then negsuc (1 - suc (suc n)) else pos (suc n - 1)) less ∙ ap pos plain)
  where
    go : (b : Bool) → nat_lt (suc n) 1 ≡ b → b ≡ false
    go true e = let q = ltb-true (suc n) 1 e in absurd (omega arith)
    go false e = refl
step_down (negsuc n) h = go (nat_lt n (NUMBER_LIMIT - 1)) refl
  where
    low : n < NUMBER_LIMIT
    low = ltb-true n NUMBER_LIMIT h

    go : (b : Bool) → nat_lt n (NUMBER_LIMIT - 1) ≡ b → bits Plus (negsuc n) (negsuc 0)
        ≡ (if b then negsuc n -ℤ pos 1 else greatest)
    go true e =
        let l = ltb-true n (NUMBER_LIMIT - 1) e in
        let m : (2 ^ 32 - suc n + (2 ^ 32 - 1)) % 2 ^ 32 ≡ 2 ^ 32 - suc (suc n) = omega (arith, l) in
        let back : 2 ^ 32 - suc (2 ^ 32 - suc (suc n)) ≡ suc n = omega (arith, l) in
        let z : n + 0 ≡ n = omega arith in
        ap number_of m ∙ signed (2 ^ 32 - suc (suc n)) (negsuc (suc n)) (λ q. absurd (omega (arith, l, q)))
        (λ q. ap negsuc (sym back)) ∙ ap (λ y. negsuc (suc y)) (sym z)
    go false e =
        let g = ltb-false n (NUMBER_LIMIT - 1) e in
        let m : (2 ^ 32 - suc n + (2 ^ 32 - 1)) % 2 ^ 32 ≡ NUMBER_LIMIT - 1 = omega (arith, low, g) in
        ap number_of m

pub steps_on : (direction : Direction) (x : ℤ) → IsTrue (is_integer x) → bits Plus x (step_number direction)
    ≡ succeeding direction x
steps_on To x h = step_up x h
steps_on Downto x h = step_down x h

up_integer : (x : ℤ) → IsTrue (is_integer x) → IsTrue (is_integer (succeeding To x))
up_integer (pos n) h = go (nat_lt n (NUMBER_LIMIT - 1)) refl
  where
    go : (b : Bool) → nat_lt n (NUMBER_LIMIT - 1) ≡ b → IsTrue (is_integer (if b then pos n +ℤ pos 1 else least))
    go true e = let l = ltb-true n (NUMBER_LIMIT - 1) e in lt-ltb (n + 1) NUMBER_LIMIT (omega (arith, l))
    go false e = refl
up_integer (negsuc zero) h = refl
up_integer (negsuc (suc n)) h =
    let l = ltb-true (suc n) NUMBER_LIMIT h in
    let less : nat_lt 1 (suc (suc n)) ≡ true = lt-ltb 1 (suc (suc n)) (omega arith) in
    ap (λ b. is_integer (if b then negsuc (suc (suc n) - suc 1) else pos (1 - suc (suc n)))) less ∙ lt-ltb
    (suc (suc n) - suc 1) NUMBER_LIMIT (omega (arith, l))

down_integer : (x : ℤ) → IsTrue (is_integer x) → IsTrue (is_integer (succeeding Downto x))
down_integer (pos zero) h = refl
down_integer (pos (suc n)) h =
    let l = ltb-true (suc n) NUMBER_LIMIT h in
    go (nat_lt (suc n) 1) refl
  where
    go : (b : Bool) → nat_lt (suc n) 1 ≡ b → IsTrue
        (is_integer (if b then negsuc (1 - suc (suc n)) else pos (suc n - 1)))
    go true e = let q = ltb-true (suc n) 1 e in absurd (omega arith)
    go false e = let l = ltb-true (suc n) NUMBER_LIMIT h in lt-ltb (suc n - 1) NUMBER_LIMIT (omega (arith, l))
down_integer (negsuc n) h = go (nat_lt n (NUMBER_LIMIT - 1)) refl
  where
    go : (b : Bool) → nat_lt n (NUMBER_LIMIT - 1) ≡ b → IsTrue (is_integer (if b then negsuc n -ℤ pos 1 else greatest))
    go true e = let l = ltb-true n (NUMBER_LIMIT - 1) e in lt-ltb (suc (n + 0)) NUMBER_LIMIT (omega (arith, l))
    go false e = refl

pub succeeding_integer : (direction : Direction) (x : ℤ) → IsTrue (is_integer x) → IsTrue
    (is_integer (succeeding direction x))
succeeding_integer To x h = up_integer x h
succeeding_integer Downto x h = down_integer x h
