-- The parts of the code of sets.
use Rattle.std.specs.Prelude.{ℕ, zero, suc, ◌+◌, ◌-◌, ◌*◌, ◌^◌, ℤ, pos, negsuc, nat_lt, if◌then◌else◌, List, [], ◌∷◌}
use Rattle.std.specs.Prelude.{◌++◌}
use Rattle.ps_tree.specs.declared.tree.operators.SetOperator.{SetOperator}
use Rattle.ps_tree.specs.Tree.{SetExpr}
use Rattle.tac_code.specs.declared.code.Base.TheVariants as base
use Rattle.tac_code.specs.declared.code.BitOperator.TheVariants as bits
use Rattle.tac_code.specs.declared.code.Operand.TheVariants as operand
use Rattle.tac_code.specs.declared.code.Operator.TheVariants as operator
use Rattle.tac_code.specs.declared.code.Relation.TheVariants.{NotEqual}
use Rattle.tac_code.specs.declared.code.Instruction.{Instruction}
use Rattle.tac_code.specs.declared.code.Instruction.TheVariants as i
use Rattle.tac_code.specs.Numbers.{natural}
use Rattle.tac_rt.specs.declared.run_time.RunTime.TheVariants.{AddRange, IsIncluded}
use Rattle.ps_lower_code.specs.Scopes.{Scope, Site, even_from, beside, site_code, words_code, helper}
use Rattle.ps_lower_code.specs.Values.{adds, adding_code, asked_code, joining_code}

-- the first words of the set from x on, each filled from t
unfoldable pub filled_code : (t x words : ℕ) → List Instruction
filled_code t x zero = []
filled_code t x (suc q) = filled_code t x q ++ i.Store base.Scratch (x + 4 * q) t ∷ []

-- no members in the set from x on
abbrev pub cleared_code : (t x : ℕ) → List Instruction
cleared_code t x =
    i.Literal t (pos 0) ∷ i.Store base.Scratch x t ∷ i.Store base.Scratch (x + 4) t ∷ i.Store base.Scratch (x + 8) t
    ∷ i.Store base.Scratch (x + 12) t
    ∷ i.Store base.Scratch (x + 16) t ∷ i.Store base.Scratch (x + 20) t ∷ i.Store base.Scratch (x + 24) t
    ∷ i.Store base.Scratch (x + 28) t ∷ []

-- the addresses of the set from x on and of the one after it
abbrev pub offsets_code : (first second x : ℕ) → List Instruction
offsets_code a b x = i.Offset a base.Scratch x 32 ∷ i.Offset b base.Scratch (x + 32) 32 ∷ []

-- a set is joined to the one from x on
abbrev pub step_code : Scope → SetOperator → SetExpr → (d x : ℕ) → List Instruction
step_code k operator e d x = if adds operator e then adding_code k e d x
    else (asked_code k e (beside (even_from d)) (x + 32) ++ joining_code k operator (even_from d) x)

-- whether the second is included in the first
abbrev pub includes_code : Scope → (t x : ℕ) → List Instruction
includes_code k t x = i.Offset t base.Scratch x 32 ∷ i.Offset (beside t) base.Scratch (x + 32) 32 ∷ helper k IsIncluded
    (beside t ∷ t ∷ []) t ∷ []

-- the word of the set at the address in u in which the number in m is looked up, or past the look-up; and whether its
-- bit is set there
abbrev pub member_word : (m u v : ℕ) → List Instruction
member_word m u v =
    i.Bits bits.And v m (operand.Number (pos 255)) ∷ i.Branch NotEqual v (operand.Temporary m) 8
    ∷ i.Arithmetic operator.Divide v m (operand.Number (pos 32)) 0 1
    ∷ i.Index u (base.Temporary u) v (pos 0) (pos 7) 4 0 1 ∷ i.Load u (base.Temporary u) 0 ∷ []

abbrev pub member_bit : (m u v t : ℕ) → List Instruction
member_bit m u v t =
    i.Literal v (pos 1) ∷ i.Bits bits.ShiftLeft v v (operand.Temporary m) ∷ i.Bits bits.And t u (operand.Temporary v)
    ∷ i.Compare NotEqual t t (operand.Number (pos 0)) ∷ []

-- a member is added to the set from x on
abbrev pub one_member : Scope → (t x line : ℕ) → List Instruction
one_member k t x line = i.CheckRange t (pos 0) (pos 255) 8 line ∷ i.Offset (beside t) base.Scratch x 32
    ∷ helper k AddRange (beside t ∷ t ∷ t ∷ []) t ∷ []

-- how many numbers from 0 on are below the bounds of a base, and how many are not above them
abbrev pub numbers_below : ℤ → ℕ
numbers_below low = natural low

abbrev pub numbers_to : ℤ → ℕ
numbers_to (pos n) = suc n
numbers_to (negsuc n) = 0

-- a word with its lowest n bits set
abbrev pub lowest_bits : ℕ → ℕ
lowest_bits count = if nat_lt count 32 then 2 ^ count - 1 else 4294967295

-- a set at a site as the set from x on, and the set at the beginning of the scratch block as one at a site
abbrev pub copied_code : Site → (t x : ℕ) → List Instruction
copied_code s t x = site_code t s 32 ++ words_code base.Scratch x (base.Temporary t) 0 (beside t) 8

abbrev pub kept_code : Site → (t : ℕ) → List Instruction
kept_code s t = site_code t s 32 ++ words_code (base.Temporary t) 0 base.Scratch 0 (beside t) 8
