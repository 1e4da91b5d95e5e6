-- Signed numbers as words: what results and flags of the operations say about the numbers that the words represent.
use Rattle.std.specs.Prelude.{◌≡◌, ℕ, ◌+◌, ◌-◌, ◌*◌, ◌/◌, ◌%◌, ◌^◌, ◌<◌, false, not, nat_eq, nat_le, if◌then◌else◌}
use Rattle.std.specs.Prelude.{List, [], ◌∷◌, ℤ, pos, negsuc, ◌+ℤ◌, ◌-ℤ◌, ◌*ℤ◌, neg_ℤ, int_lt, int_div, ◌≤ℤ◌, ◌<ℤ◌}
use Rattle.std.specs.Int.{int_shr, int_div_euclid, int_rem_euclid}
use Rattle.risc_word.specs.declared.instr.Operation.TheVariants.{Add}
use Rattle.risc_word.specs.declared.instr.Operand.TheVariants.{Constant}
use Rattle.risc_word.specs.declared.instr.Instr.{Instr}
use Rattle.risc_word.specs.declared.instr.Instr.TheVariants.{MoveTop, Operate}
use Rattle.risc_machine.specs.Step.{signed, word_of_int, overflows, product, differ}
use Rattle.risc_machine.specs.declared.limits.TheConstants.{PLACES, SIGN_BIT}

-- the numbers of 32 bits
abbrev pub IsNumber : ℤ → Type 0
IsNumber n = (negsuc 2147483647 ≤ℤ n) × (n ≤ℤ pos 2147483647)

-- the distance of a branch from its place to another
abbrev pub distance : ℕ → ℕ → ℤ
distance from to = pos to -ℤ pos (from + 1)

-- any word into a register
abbrev pub constant_code : ℕ → ℕ → List Instr
constant_code a w = MoveTop a (w / 65536) ∷ Operate Add a a (Constant (pos (w % 65536))) ∷ []

-- the words of a sum, a difference and a product, as ADD, SUB and MUL give them
abbrev pub sum_of : ℕ → ℕ → ℕ
sum_of x y = (x + y + 0) % 2 ^ 32

abbrev pub difference_of : ℕ → ℕ → ℕ
difference_of x y = (x + 2 ^ 33 - y - 0) % 2 ^ 32

abbrev pub product_of : ℕ → ℕ → ℕ
product_of x y = product x y % 2 ^ 32

-- the sign of a word in each of its bits, as ASR by 31 makes it
abbrev pub sign_of : ℕ → ℕ
sign_of w = word_of_int (int_shr (signed w) 31)

-- a floored quotient and its remainder, rounded toward zero
abbrev pub toward_zero : ℤ → ℤ → ℤ
toward_zero (pos q) r = pos q
toward_zero (negsuc q) (pos r) = if nat_eq r 0 then negsuc q else negsuc q +ℤ pos 1
toward_zero (negsuc q) (negsuc r) = negsuc q

pub record NumberLaws : Type 0 where
  -- a number's word has 32 bits, and the number can be read back from it
  pub narrow : (n : ℤ) → IsNumber n → word_of_int n < 4294967296
  pub read : (n : ℤ) → IsNumber n → signed (word_of_int n) ≡ n
  -- N and Z of a number's word
  pub minus : (n : ℤ) → IsNumber n → nat_le SIGN_BIT (word_of_int n) ≡ int_lt n (pos 0)
  pub zeros : (n : ℤ) → IsNumber n → word_of_int n ≡ 0 → n ≡ pos 0
  -- what does not overflow has a word
  pub fits : (n : ℤ) → overflows n ≡ false → IsNumber n
  pub sums : (m n : ℤ) → IsNumber m → IsNumber n → IsNumber (m +ℤ n) → sum_of (word_of_int m) (word_of_int n)
      ≡ word_of_int (m +ℤ n)
  pub differences : (m n : ℤ) → IsNumber m → IsNumber n → IsNumber (m -ℤ n) → difference_of (word_of_int m)
      (word_of_int n) ≡ word_of_int (m -ℤ n)
  pub products : (m n : ℤ) → IsNumber m → IsNumber n → IsNumber (m *ℤ n) → product_of (word_of_int m) (word_of_int n)
      ≡ word_of_int (m *ℤ n)
  -- a product fits into a word if and only if H holds the sign of the low word
  pub product_fits : (m n : ℤ) → IsNumber m → IsNumber n → nat_eq
      (difference_of (sign_of (product_of (word_of_int m) (word_of_int n)))
      (product (word_of_int m) (word_of_int n) / 2 ^ 32)) 0 ≡ not (overflows (m *ℤ n))
  -- N <> V after a difference is the order
  pub order : (m n : ℤ) → IsNumber m → IsNumber n → differ
      (nat_le SIGN_BIT (difference_of (word_of_int m) (word_of_int n))) (overflows (m -ℤ n)) ≡ int_lt m n
  -- the quotient rounded toward zero, from the result of DIV; a divisor below zero is negated, and then the quotient
  pub quotients : (m n : ℤ) → pos 0 <ℤ n → int_div m n ≡ toward_zero (int_div_euclid m n) (int_rem_euclid m n)
  pub negated : (m n : ℤ) → pos 0 <ℤ n → int_div m (neg_ℤ n) ≡ neg_ℤ (int_div m n)
  -- a branch reaches its place, and the two words of a constant give it
  pub reached : (from to : ℕ) → from < PLACES - 1 → to < PLACES → (from + 1 + word_of_int (distance from to)) % PLACES
      ≡ to
  pub constant : (w : ℕ) → w < 4294967296 → sum_of (w / 65536 * 65536) (word_of_int (pos (w % 65536))) ≡ w
