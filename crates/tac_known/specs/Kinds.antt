-- What is known of the temporaries of an activation, and what instructions make of it.
use Rattle.std.specs.Prelude.{◌≡◌, ◌≢◌, ℕ, ◌-◌, ◌&&◌, not, Bool, true, false, if◌then◌else◌, List, [], ◌∷◌, slice_get}
use Rattle.std.specs.Prelude.{Option, Some, None, ℤ, pos, ◌+ℤ◌, ◌-ℤ◌, ◌*ℤ◌, neg_ℤ, ◌≤ℤ◌, int_lt, int_div}
use Rattle.std.specs.Int.{int_max, int_min}
use Rattle.std.specs.Ordering.{int_eq}
use Rattle.tac_code.specs.declared.code.TheConstants.{NUMBER_LIMIT}
use Rattle.tac_code.specs.declared.code.Value.{Value}
use Rattle.tac_code.specs.declared.code.Value.TheVariants.{Number}
use Rattle.tac_code.specs.declared.code.Operator.{Operator}
use Rattle.tac_code.specs.declared.code.Operator.TheVariants.{Add, Subtract, Multiply, Divide, Modulo}
use Rattle.tac_code.specs.declared.code.BitOperator.{BitOperator}
use Rattle.tac_code.specs.declared.code.BitOperator.TheVariants.{Plus}
use Rattle.tac_code.specs.declared.code.Relation.{Relation}
use Rattle.tac_code.specs.declared.code.Relation.TheVariants.{Equal, NotEqual, Less, LessEqual, Greater, GreaterEqual}
use Rattle.tac_code.specs.declared.code.Operand.{Operand}
use Rattle.tac_code.specs.declared.code.Operand.TheVariants as operand
use Rattle.tac_code.specs.Numbers.{is_integer}
use Rattle.tac_code.specs.Meaning.{Temporaries}
use Rattle.tac_known.specs.declared.kind.Kind.{Kind}
use Rattle.tac_known.specs.declared.kind.Kind.TheVariants.{Unknown, NotNil, Between}

-- ---- what kinds mean

-- a temporary holds a value of a kind: any or none, anything but nil, which is the number 0, or a number within bounds
abbrev pub IsOf : Kind → Option Value → Type 0
IsOf Unknown o = Unit {0}
IsOf NotNil o = o ≢ Some (Number (pos 0))
IsOf (Between low high) o = (x : ℤ) × (o ≡ Some (Number x)) × (low ≤ℤ x) × (x ≤ℤ high)

abbrev pub or_unknown : Option Kind → Kind
or_unknown None = Unknown
or_unknown (Some k) = k

-- by the numbers of temporaries
abbrev pub kind_in : List Kind → ℕ → Kind
kind_in kinds u = or_unknown (slice_get kinds u)

abbrev pub Hold : List Kind → Temporaries → Type 0
Hold kinds temporaries = (u : ℕ) → IsOf (kind_in kinds u) (temporaries u)

abbrev pub operand_kind : List Kind → Operand → Kind
operand_kind kinds (operand.Temporary u) = kind_in kinds u
operand_kind kinds (operand.Number z) = Between z z

-- ---- kinds of results

abbrev pub least : ℤ
least = neg_ℤ (pos NUMBER_LIMIT)

abbrev pub greatest : ℤ
greatest = pos (NUMBER_LIMIT - 1)

-- a number within bounds that is within other bounds too
abbrev pub met : Kind → ℤ → ℤ → Kind
met (Between l h) low high = Between (int_max l low) (int_min h high)
met _ low high = Between low high

-- bounds of an integer: a number that is not an integer gives no bound
abbrev pub low_of : ℤ → ℤ
low_of z = if is_integer z then z else least

abbrev pub high_of : ℤ → ℤ
high_of z = if is_integer z then z else greatest

abbrev pub bounded : ℤ → ℤ → Kind
bounded l h = Between (low_of l) (high_of h)

abbrev pub all_integers : Kind
all_integers = Between least greatest

-- what was computed is an integer, or the run would be over
abbrev pub sum : Kind → Kind → Kind
sum (Between l h) (Between l' h') = bounded (l +ℤ l') (h +ℤ h')
sum _ _ = Between least greatest

abbrev pub difference : Kind → Kind → Kind
difference (Between l h) (Between l' h') = bounded (l -ℤ h') (h -ℤ l')
difference _ _ = Between least greatest

-- by a divisor that is above 0
abbrev pub remainder : Kind → Kind
remainder (Between l h) = if int_lt (pos 0) l && int_lt (pos 0) h then Between (pos 0) (h -ℤ pos 1) else Unknown
remainder _ = Unknown

-- whether neither of two numbers is negative
abbrev pub are_natural : ℤ → ℤ → Bool
are_natural l h = not (int_lt l (pos 0)) && not (int_lt h (pos 0))

abbrev pub are_all_natural : (l h l' h' : ℤ) → Bool
are_all_natural l h l' h' = are_natural l h && are_natural l' h'

abbrev pub bounded_product : (l h l' h' : ℤ) → Kind
bounded_product l h l' h' = bounded (l *ℤ l') (h *ℤ h')

-- of numbers that are not negative
abbrev pub product_between : (l h l' h' : ℤ) → Kind
product_between l h l' h' = if are_all_natural l h l' h' then bounded_product l h l' h' else all_integers

abbrev pub product : Kind → Kind → Kind
product (Between l h) (Between l' h') = product_between l h l' h'
product _ _ = all_integers

-- of numbers that are not negative by one number that is above 0
abbrev pub divide : (l h l' h' : ℤ) → Bool
divide l h l' h' = are_natural l h && (int_lt (pos 0) l' && int_eq l' h')

abbrev pub quotient_of : ℤ → ℤ → ℤ
quotient_of z d = if int_lt (pos 0) d then int_div z d else least

abbrev pub quotient_between : (l h l' h' : ℤ) → Kind
quotient_between l h l' h' =
    if divide l h l' h' then Between (quotient_of l l') (quotient_of h l') else all_integers

abbrev pub quotient : Kind → Kind → Kind
quotient (Between l h) (Between l' h') = quotient_between l h l' h'
quotient _ _ = all_integers

abbrev pub computed_kind : Operator → Kind → Kind → Kind
computed_kind Add k k' = sum k k'
computed_kind Subtract k k' = difference k k'
computed_kind Multiply k k' = product k k'
computed_kind Divide k k' = quotient k k'
computed_kind Modulo k k' = remainder k'

-- whether all numbers between are integers of 32 bits
abbrev pub are_integers : ℤ → ℤ → Bool
are_integers l h = is_integer l && is_integer h

-- a sum modulo 2 ^ 32, if none wraps
abbrev pub are_plain : (l h l' h' : ℤ) → Bool
are_plain l h l' h' = are_integers l h && (are_integers l' h' && are_integers (l +ℤ l') (h +ℤ h'))

abbrev pub plain_between : (l h l' h' : ℤ) → Kind
plain_between l h l' h' = if are_plain l h l' h' then bounded (l +ℤ l') (h +ℤ h') else Unknown

abbrev pub plain_sum : Kind → Kind → Kind
plain_sum (Between l h) (Between l' h') = plain_between l h l' h'
plain_sum _ _ = Unknown

abbrev pub bits_kind : BitOperator → Kind → Kind → Kind
bits_kind Plus k k' = plain_sum k k'
bits_kind _ k k' = Unknown

-- ---- tests that can't fail

abbrev pub fits_sum : Kind → Kind → Bool
fits_sum (Between l h) (Between l' h') = are_integers (l +ℤ l') (h +ℤ h')
fits_sum _ _ = false

abbrev pub fits_difference : Kind → Kind → Bool
fits_difference (Between l h) (Between l' h') = are_integers (l -ℤ h') (h -ℤ l')
fits_difference _ _ = false

abbrev pub fits_product_between : (l h l' h' : ℤ) → Bool
fits_product_between l h l' h' = are_all_natural l h l' h' && is_integer (h *ℤ h')

abbrev pub fits_product : Kind → Kind → Bool
fits_product (Between l h) (Between l' h') = fits_product_between l h l' h'
fits_product _ _ = false

abbrev pub fits : Operator → Kind → Kind → Bool
fits Add k k' = fits_sum k k'
fits Subtract k k' = fits_difference k k'
fits Multiply k k' = fits_product k k'
fits _ k k' = false

abbrev pub lies_within : Kind → ℤ → ℤ → Bool
lies_within (Between l h) low high = not (int_lt l low) && not (int_lt high h)
lies_within _ low high = false

abbrev pub is_pointer : Kind → Bool
is_pointer NotNil = true
is_pointer _ = false

-- ---- branches

abbrev pub opposite : Relation → Relation
opposite Equal = NotEqual
opposite NotEqual = Equal
opposite Less = GreaterEqual
opposite LessEqual = Greater
opposite Greater = LessEqual
opposite GreaterEqual = Less

-- the next numbers, as far as there are integers
abbrev pub one_less : ℤ → ℤ
one_less z = if int_lt least z then z -ℤ pos 1 else z

abbrev pub one_more : ℤ → ℤ
one_more z = if int_lt z greatest then z +ℤ pos 1 else z

-- without one of its bounds
abbrev pub without : ℤ → ℤ → ℤ → Kind
without l h z =
    if int_eq l z then Between (one_more l) h else if int_eq h z then Between l (one_less h) else Between l h

-- a number within bounds that differs from a number within others
abbrev pub unequal : (l h l' h' : ℤ) → Kind
unequal l h l' h' = if int_eq l' h' then without l h l' else Between l h

-- a number within bounds that is known to be so related to one within others
abbrev pub narrowed : Relation → (l h l' h' : ℤ) → Kind
narrowed Equal l h l' h' = met (Between l h) l' h'
narrowed NotEqual l h l' h' = unequal l h l' h'
narrowed Less l h l' h' = Between l (int_min h (one_less h'))
narrowed LessEqual l h l' h' = Between l (int_min h h')
narrowed Greater l h l' h' = Between (int_max l (one_more l')) h
narrowed GreaterEqual l h l' h' = Between (int_max l l') h

-- what was compared with nil, and is something else
abbrev pub says_nil : Kind → Bool
says_nil (Between l h) = int_eq l (pos 0) && int_eq h (pos 0)
says_nil _ = false

abbrev pub not_nil : Relation → Kind → Kind
not_nil NotEqual k' = if says_nil k' then NotNil else Unknown
not_nil _ k' = Unknown

abbrev pub related_kind : Relation → Kind → Kind → Kind
related_kind relation Unknown k' = not_nil relation k'
related_kind relation (Between l h) (Between l' h') = narrowed relation l h l' h'
related_kind relation k k' = k

-- ---- where places meet

-- the second says no more than the first
abbrev pub says_no_more : Kind → Kind → Bool
says_no_more _ Unknown = true
says_no_more NotNil NotNil = true
says_no_more (Between l h) (Between l' h') = not (int_lt l l') && not (int_lt h' h)
says_no_more _ _ = false

abbrev pub say_no_more : List Kind → List Kind → Bool
say_no_more kinds [] = true
say_no_more [] (k ∷ ks) = says_no_more Unknown k && say_no_more [] ks
say_no_more (x ∷ xs) (k ∷ ks) = says_no_more x k && say_no_more xs ks

abbrev pub forget : Kind → Kind
forget k = Unknown
