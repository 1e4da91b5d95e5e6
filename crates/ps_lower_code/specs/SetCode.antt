-- The code of sets, at places that are given: whether they are within bounds, and their members.
use Rattle.std.specs.Prelude.{ℕ, zero, suc, ◌+◌, ◌*◌, ◌/◌, ◌%◌, ◌^◌, ℤ, pos, unsigned_abs, Bool, true, false, not}
use Rattle.std.specs.Prelude.{nat_eq, if◌then◌else◌, List, [], ◌∷◌, ◌++◌, Option, Some, None}
use Rattle.ps_tree.specs.declared.tree.operators.SetOperator.{SetOperator}
use Rattle.ps_tree.specs.declared.tree.operators.SetOperator.TheVariants.{Union, Difference, Intersection}
use Rattle.ps_tree.specs.Tree.{SetExpr, LoadSet, Constructor, Combine}
use Rattle.ps_meaning.specs.Operators.{is_between}
use Rattle.tac_code.specs.declared.code.Operand.TheVariants as operand
use Rattle.tac_code.specs.declared.code.Base.TheVariants as base
use Rattle.tac_code.specs.declared.code.Operator.TheVariants as operator
use Rattle.tac_code.specs.declared.code.BitOperator.TheVariants as bits
use Rattle.tac_code.specs.declared.code.Relation.TheVariants.{Equal, NotEqual}
use Rattle.tac_code.specs.declared.code.Instruction.{Instruction}
use Rattle.tac_code.specs.declared.code.Instruction.TheVariants as i
use Rattle.tac_code.specs.Numbers.{number_of}
use Rattle.ps_lower_layout.specs.Words.{bits_from}
use Rattle.ps_lower_code.specs.Scopes.{beside, has_bytes}

-- ---- sets within the bounds of a base

-- every member that a set can have is within them
abbrev pub holds_all : (low high : ℤ) → Bool
holds_all low high = has_bytes low high

-- the bits of word q of a set that are outside them
unfoldable pub outside_bits : (low high : ℤ) (q : ℕ) → ℕ
outside_bits low high q = bits_from 32 (32 * q) (λ k. not (is_between low (pos k) high))

-- some bits of a word
abbrev pub masked : (t mask : ℕ) → List Instruction
masked t mask = if nat_eq mask 4294967295 then [] else i.Bits bits.And t t (operand.Number (number_of mask)) ∷ []

-- those bits of the word at x of the scratch block are joined to the content of t; the next temporary of t's class is
-- used
abbrev pub joined_word : (t x mask : ℕ) → List Instruction
joined_word t x mask = if nat_eq mask 0 then []
    else (i.Load (beside t) base.Scratch x ∷ masked (beside t) mask ++ i.Bits bits.Or t t (operand.Temporary (beside t))
    ∷ [])

-- the bits outside in the first words of the set from x on
unfoldable pub outside_code : (low high : ℤ) (t x words : ℕ) → List Instruction
outside_code low high t x zero = []
outside_code low high t x (suc q) = outside_code low high t x q ++ joined_word t (x + 4 * q) (outside_bits low high q)

-- the set from x on is within the bounds, or error 8
abbrev pub set_check : (t x : ℕ) (low high : ℤ) (line : ℕ) → List Instruction
set_check t x low high line =
    if holds_all low high then [] else (i.Literal t (pos 0) ∷ outside_code low high t x 8 ++ i.Branch Equal t
    (operand.Number (pos 0)) 1 ∷ i.Trap 8 line ∷ [])

-- ---- members

-- a known number that can be a member
abbrev pub known_member : Option ℤ → Option ℕ
known_member None = None
known_member (Some z) = if is_between (pos 0) z (pos 255) then Some (unsigned_abs z) else None

-- the member n is added to the set from x on as a bit of its word; t is used
abbrev pub bit_code : (n t x : ℕ) → List Instruction
bit_code n t x =
    i.Load t base.Scratch (x + 4 * (n / 32)) ∷ i.Bits bits.Or t t (operand.Number (number_of (2 ^ (n % 32))))
    ∷ i.Store base.Scratch (x + 4 * (n / 32)) t ∷ []

-- a known member, or the code of any other
abbrev pub one_code : Option ℕ → (t x : ℕ) → List Instruction → List Instruction
one_code None t x code = code
one_code (Some n) t x code = bit_code n t x

abbrev pub is_union : SetOperator → Bool
is_union Union = true
is_union Difference = false
is_union Intersection = false

-- whether a constructor's members are added to a set one by one, so that no second set is made of them
abbrev pub adds : SetOperator → SetExpr → Bool
adds operator (LoadSet p) = false
adds operator (Constructor members) = is_union operator
adds operator (Combine e steps) = false

-- Whether the number in m is a member of the set at the address in u: the truth value goes to t. A member is in 0..255,
-- and is bit m mod 32 of word m div 32, which is read in place. The next temporary of u's class is used. The errors are
-- 0, and the lines dummies: neither the quotient nor the index fails.
abbrev pub membership_code : (m u t : ℕ) → List Instruction
membership_code m u t =
    i.Bits bits.And (beside u) m (operand.Number (pos 255)) ∷ i.Branch NotEqual (beside u) (operand.Temporary m) 8
    ∷ i.Arithmetic operator.Divide (beside u) m (operand.Number (pos 32)) 0 1 ∷ i.Index u (base.Temporary u) (beside u)
    (pos 0) (pos 7) 4 0 1
    ∷ i.Load u (base.Temporary u) 0 ∷ i.Literal (beside u) (pos 1) ∷ i.Bits bits.ShiftLeft (beside u) (beside u)
    (operand.Temporary m)
    ∷ i.Bits bits.And t u (operand.Temporary (beside u)) ∷ i.Compare NotEqual t t (operand.Number (pos 0)) ∷ i.Jump 1
    ∷ i.Literal t (pos 0) ∷ []
