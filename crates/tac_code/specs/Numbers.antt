-- Numbers of 32 bits: the results of the operators.
use Rattle.std.specs.Prelude.{ℕ, zero, suc, ◌+◌, ◌-◌, ◌*◌, ◌/◌, ◌%◌, ◌^◌, Bool, true, false, not, ◌&&◌, nat_eq, nat_lt}
use Rattle.std.specs.Prelude.{if◌then◌else◌, ℤ, pos, negsuc, ◌+ℤ◌, ◌-ℤ◌, ◌*ℤ◌, int_div, int_lt, bit_and, bit_or}
use Rattle.std.specs.Int.{w32, cast_unsigned, cast_signed, int_rem_euclid}
use Rattle.tac_code.specs.declared.code.TheConstants.{NUMBER_LIMIT}
use Rattle.tac_code.specs.declared.code.Operator.{Operator}
use Rattle.tac_code.specs.declared.code.Operator.TheVariants.{Add, Subtract, Multiply, Divide, Modulo}
use Rattle.tac_code.specs.declared.code.BitOperator.{BitOperator}
use Rattle.tac_code.specs.declared.code.BitOperator.TheVariants.{And, Or, AndNot, ShiftLeft, Plus}
use Rattle.tac_code.specs.declared.code.Relation.{Relation}
use Rattle.tac_code.specs.declared.code.Relation.TheVariants.{Equal, NotEqual, Less, LessEqual, Greater, GreaterEqual}

-- -2147483648 to 2147483647
abbrev pub is_integer : ℤ → Bool
is_integer (pos n) = nat_lt n NUMBER_LIMIT
is_integer (negsuc n) = nat_lt n NUMBER_LIMIT

abbrev pub is_zero : ℤ → Bool
is_zero (pos zero) = true
is_zero (pos (suc n)) = false
is_zero (negsuc n) = false

abbrev pub same_number : ℤ → ℤ → Bool
same_number (pos a) (pos b) = nat_eq a b
same_number (pos a) (negsuc b) = false
same_number (negsuc a) (pos b) = false
same_number (negsuc a) (negsuc b) = nat_eq a b

abbrev pub truth : Bool → ℤ
truth true = pos 1
truth false = pos 0

-- a number's word in two's complement, and a word's number
abbrev pub word_of : ℤ → ℕ
word_of z = cast_unsigned w32 z

abbrev pub number_of : ℕ → ℤ
number_of n = cast_signed w32 n

-- a result, or the number of an error
pub data Computed : Type 0 where
  Gives : ℤ → Computed
  Fails : ℕ → Computed

abbrev pub within : ℕ → ℤ → Computed
within error z = if is_integer z then Gives z else Fails error

-- ISO 7185 6.7.2.2
abbrev pub computed : Operator → ℕ → ℤ → ℤ → Computed
computed Add error x y = within error (x +ℤ y)
computed Subtract error x y = within error (x -ℤ y)
computed Multiply error x y = within error (x *ℤ y)
computed Divide error x y = if is_zero y then Fails 2 else within error (int_div x y)
computed Modulo error x y = if int_lt (pos 0) y then Gives (int_rem_euclid x y) else Fails 3

abbrev pub combined : BitOperator → ℕ → ℕ → ℕ
combined And x y = bit_and x y
combined Or x y = bit_or x y
combined AndNot x y = bit_and x (2 ^ 32 - 1 - y)
combined ShiftLeft x y = (x * 2 ^ (y % 32)) % 2 ^ 32
combined Plus x y = (x + y) % 2 ^ 32

abbrev pub bits : BitOperator → ℤ → ℤ → ℤ
bits operator x y = number_of (combined operator (word_of x) (word_of y))

-- ISO 7185 6.7.2.5
abbrev pub compared : Relation → ℤ → ℤ → Bool
compared Equal x y = same_number x y
compared NotEqual x y = not (same_number x y)
compared Less x y = int_lt x y
compared LessEqual x y = not (int_lt y x)
compared Greater x y = int_lt y x
compared GreaterEqual x y = not (int_lt x y)

abbrev pub is_in_range : (low high : ℤ) → ℤ → Bool
is_in_range low high x = not (int_lt x low) && not (int_lt high x)

-- how far a number is above the lowest one
abbrev pub natural : ℤ → ℕ
natural (pos n) = n
natural (negsuc n) = 0

abbrev pub steps_above : ℤ → ℤ → ℕ
steps_above low x = natural (x -ℤ low)

-- byte k of a number's word, 0 the lowest, and the number with that byte changed
abbrev pub byte_of : ℤ → ℕ → ℕ
byte_of z k = word_of z / 256 ^ k % 256

abbrev pub with_byte : ℤ → ℕ → ℕ → ℤ
with_byte z k byte = number_of (word_of z - byte_of z k * 256 ^ k + byte * 256 ^ k)
