-- What operators and required functions give (6.7.2, 6.6.6), and the tests of ranges (6.4.6).
use Rattle.std.specs.Prelude.{ℕ, zero, suc, ◌-◌, ◌%◌, ℤ, pos, negsuc, ◌+ℤ◌, ◌-ℤ◌, ◌*ℤ◌, int_lt, int_le, int_div}
use Rattle.std.specs.Prelude.{unsigned_abs, Bool, true, false, not, ◌&&◌, ◌||◌, ◌==◌, nat_lt, if◌then◌else◌, List, []}
use Rattle.std.specs.Prelude.{◌∷◌}
use Rattle.ps_tree.specs.declared.tree.operators.ArithmeticOperator.{ArithmeticOperator}
use Rattle.ps_tree.specs.declared.tree.operators.ArithmeticOperator.TheVariants.{Add, Subtract, Multiply, Div, Mod}
use Rattle.ps_tree.specs.declared.tree.operators.BooleanOperator.{BooleanOperator}
use Rattle.ps_tree.specs.declared.tree.operators.BooleanOperator.TheVariants.{And, Or}
use Rattle.ps_tree.specs.declared.tree.operators.SetOperator.{SetOperator}
use Rattle.ps_tree.specs.declared.tree.operators.SetOperator.TheVariants.{Union, Difference, Intersection}
use Rattle.ps_tree.specs.declared.tree.operators.OrderRelation.{OrderRelation}
use Rattle.ps_tree.specs.declared.tree.operators.OrderRelation.TheVariants.{Equal, Different, Less, Greater, AtMost}
use Rattle.ps_tree.specs.declared.tree.operators.OrderRelation.TheVariants.{AtLeast}
use Rattle.ps_tree.specs.declared.tree.operators.PointerRelation.{PointerRelation}
use Rattle.ps_tree.specs.declared.tree.operators.PointerRelation.TheVariants.{Same as SamePointer}
use Rattle.ps_tree.specs.declared.tree.operators.PointerRelation.TheVariants.{Other as OtherPointer}
use Rattle.ps_tree.specs.declared.tree.operators.SetRelation.{SetRelation}
use Rattle.ps_tree.specs.declared.tree.operators.SetRelation.TheVariants.{Same, Other, Included, Includes}
use Rattle.ps_tree.specs.declared.tree.operators.RequiredFunction.{RequiredFunction}
use Rattle.ps_tree.specs.declared.tree.operators.RequiredFunction.TheVariants.{Abs, Sqr, Odd, Ord, Chr, Succ, Pred}
use Rattle.ps_tree.specs.declared.tree.operators.Range.{Range}
use Rattle.ps_tree.specs.declared.tree.operators.Range.TheVariants.{Any, Within}
use Rattle.ps_meaning.specs.Values.{Value, NilValue, ObjectValue, Values, value_before, number_of}

-- a number, or the number of an error
pub data Computed : Type 0 where
  Result : ℤ → Computed
  Fault : (number : ℕ) → Computed

abbrev pub is_equal : ℤ → ℤ → Bool
is_equal (pos m) (pos n) = m == n
is_equal (negsuc m) (negsuc n) = m == n
is_equal _ _ = false

abbrev pub is_between : ℤ → ℤ → ℤ → Bool
is_between low x high = int_le low x && int_le x high

-- the least and the greatest integer, which is maxint (6.4.2.2)
abbrev pub least : ℤ
least = negsuc 2147483647

abbrev pub greatest : ℤ
greatest = pos 2147483647

-- error 1 if the result is not an integer
abbrev pub integer : ℤ → Computed
integer x = if is_between least x greatest then Result x else Fault 1

-- the k in 0 .. j - 1 for which i - k is a multiple of j, for a positive j
abbrev pub modulo : ℤ → ℕ → ℤ
modulo (pos i) j = pos (i % j)
modulo (negsuc i) j = pos (j - suc (i % j))

-- 6.7.2.2: `div` truncates toward zero
abbrev pub compute : ArithmeticOperator → ℤ → ℤ → Computed
compute Add x y = integer (x +ℤ y)
compute Subtract x y = integer (x -ℤ y)
compute Multiply x y = integer (x *ℤ y)
compute Div x y = if is_equal y (pos 0) then Fault 2 else integer (int_div x y)
compute Mod x y = if int_le y (pos 0) then Fault 3 else Result (modulo x (unsigned_abs y))

abbrev pub truth : Bool → ℤ
truth b = if b then pos 1 else pos 0

abbrev pub is_true : ℤ → Bool
is_true x = not (is_equal x (pos 0))

-- 6.7.2.3
abbrev pub combine_truths : BooleanOperator → Bool → Bool → Bool
combine_truths And a b = a && b
combine_truths Or a b = a || b

-- 6.6.6.2 to 6.6.6.5
abbrev pub apply : RequiredFunction → ℤ → Computed
apply Abs x = integer (pos (unsigned_abs x))
apply Sqr x = integer (x *ℤ x)
apply Odd x = Result (truth (unsigned_abs x % 2 == 1))
apply Ord x = Result x
apply Chr x = if is_between (pos 0) x (pos 255) then Result x else Fault 4
apply (Succ high) x = if int_lt x high then Result (x +ℤ pos 1) else Fault 4
apply (Pred low) x = if int_lt low x then Result (x -ℤ pos 1) else Fault 4

-- 6.7.2.5
abbrev pub holds : OrderRelation → ℤ → ℤ → Bool
holds Equal x y = is_equal x y
holds Different x y = not (is_equal x y)
holds Less x y = int_lt x y
holds Greater x y = int_lt y x
holds AtMost x y = int_le x y
holds AtLeast x y = int_le y x

abbrev pub is_same_pointer : Value → Value → Bool
is_same_pointer NilValue NilValue = true
is_same_pointer (ObjectValue a) (ObjectValue b) = a == b
is_same_pointer _ _ = false

abbrev pub pointers_hold : PointerRelation → Value → Value → Bool
pointers_hold SamePointer a b = is_same_pointer a b
pointers_hold OtherPointer a b = not (is_same_pointer a b)

-- strings are ordered by the first characters that differ; they are equal if none do
abbrev pub first_difference : Values → Values → ℤ × ℤ
first_difference (value_before v vs) (value_before w ws) = if is_equal (number_of v) (number_of w)
    then first_difference vs ws else (number_of v, number_of w)
first_difference _ _ = (pos 0, pos 0)

abbrev pub strings_hold : OrderRelation → Values → Values → Bool
strings_hold relation vs ws = let (x, y) = first_difference vs ws in holds relation x y

-- 6.7.2.4: sets, as tests of their members
abbrev pub combine_sets : SetOperator → (ℕ → Bool) → (ℕ → Bool) → ℕ → Bool
combine_sets Union a b k = a k || b k
combine_sets Difference a b k = a k && not (b k)
combine_sets Intersection a b k = a k && b k

-- the test holds for each number below n
unfoldable pub all_below : ℕ → (ℕ → Bool) → Bool
all_below zero test = true
all_below (suc n) test = test n && all_below n test

abbrev pub is_included : (ℕ → Bool) → (ℕ → Bool) → Bool
is_included a b = all_below 256 (λ k. not (a k) || b k)

abbrev pub sets_hold : SetRelation → (ℕ → Bool) → (ℕ → Bool) → Bool
sets_hold Same a b = is_included a b && is_included b a
sets_hold Other a b = not (is_included a b && is_included b a)
sets_hold Included a b = is_included a b
sets_hold Includes a b = is_included b a

-- x in s; an ordinal outside 0..255 is in no set
abbrev pub is_member : ℤ → (ℕ → Bool) → Bool
is_member (pos n) s = nat_lt n 256 && s n
is_member (negsuc n) s = false

-- the set of the numbers from low to high
abbrev pub interval : ℤ → ℤ → ℕ → Bool
interval low high k = is_between low (pos k) high

-- 6.4.6: a value is within the range of a variable, and a set's members are within a base
abbrev pub fits : Range → Value → Bool
fits Any v = true
fits (Within low high) v = is_between low (number_of v) high

abbrev pub set_fits : ℤ → ℤ → (ℕ → Bool) → Bool
set_fits low high s = all_below 256 (λ k. not (s k) || is_between low (pos k) high)

abbrev pub is_among : ℤ → List ℤ → Bool
is_among x [] = false
is_among x (y ∷ ys) = is_equal x y || is_among x ys
