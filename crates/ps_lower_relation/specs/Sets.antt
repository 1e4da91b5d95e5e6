-- Sets in memory.
use Rattle.std.specs.Prelude.{ℕ, ◌*◌, Bool, ℤ}
use Rattle.ps_tree.specs.declared.tree.operators.SetOperator.{SetOperator}
use Rattle.ps_tree.specs.declared.tree.operators.SetOperator.TheVariants.{Union, Difference, Intersection}
use Rattle.tac_code.specs.declared.code.BitOperator.{BitOperator}
use Rattle.tac_code.specs.declared.code.BitOperator.TheVariants.{And, Or, AndNot}
use Rattle.tac_code.specs.Numbers.{number_of}
use Rattle.ps_lower_layout.specs.Words.{bits_from}

-- the number in word q of a set: its bits are the members from 32 * q on
abbrev pub set_number : (ℕ → Bool) → (q : ℕ) → ℤ
set_number s q = number_of (bits_from 32 (32 * q) s)

-- the operation that combines the words of two sets
abbrev pub bit_operator_of : SetOperator → BitOperator
bit_operator_of Union = Or
bit_operator_of Difference = AndNot
bit_operator_of Intersection = And
