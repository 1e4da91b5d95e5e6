-- First values, transfers, and the pieces of `case` and `for` have small offsets.
use Rattle.std.proofs.Common.{◌≡◌, ℕ, zero, suc, ◌+◌, ◌*◌, ◌/◌, ◌%◌, ◌<◌, ◌≤◌, Bool, true, false, nat_le, nat_lt}
use Rattle.std.proofs.Common.{nat_eq, if◌then◌else◌, List, [], ◌∷◌, ◌++◌, ℤ, refl, arith}
use Rattle.ps_tree.specs.declared.tree.operators.Direction.{Direction}
use Rattle.ps_tree.specs.Types.{DataType}
use Rattle.ps_tree.specs.Sizes.{value_count}
use Rattle.ps_meaning.specs.Expressions.{index_of}
use Rattle.tac_code.specs.declared.code.Operand.{Operand}
use Rattle.tac_code.specs.declared.code.Base.{Base}
use Rattle.tac_code.specs.declared.code.Instruction.{Instruction}
use Rattle.tac_code.specs.declared.code.Instruction.TheVariants as i
use Rattle.tac_code.specs.declared.code.TheConstants.{NUMBER_LIMIT}
use Rattle.ps_lower_layout.specs.Shapes.{Shape, NumberShape, PointerShape, SetShape, ByteShape, ArrayShape}
use Rattle.ps_lower_layout.specs.Shapes.{RecordShape, Shapes, no_shape, shape_before, word_count, byte_count}
use Rattle.ps_lower_code.specs.Scopes.{Scope}
use Rattle.ps_lower_code.specs.Statements.{spread_code, zero_code, byte_word, bytes_code, first_code, fields_code}
use Rattle.ps_lower_code.specs.Statements.{components_code, tests_code, for_code, room_code}
use Rattle.ps_lower_bounds.proofs.ClosedFirsts.{part_small}
use Rattle.ps_lower_bounds.proofs.Narrow.{Narrow, at_narrow, both, either}

module _ (k : Scope) (b : Base) where
  spread_narrow : (t offset n whole : ℕ) → offset + n < NUMBER_LIMIT → Narrow (spread_code k b t offset n whole)
  spread_narrow t offset n whole l =
      either (nat_le whole n) [] _ tt (
        (at_narrow b (offset + n) l, at_narrow b 0 (omega arith)),
        ((at_narrow b offset (omega (arith, l)), at_narrow b 0 (omega arith)), (tt, (tt, tt))),
      )

  zero_narrow : (t offset whole : ℕ) → offset + 4 < NUMBER_LIMIT → Narrow (zero_code k b t offset whole)
  zero_narrow t offset whole l = (tt, (at_narrow b offset (omega (arith, l)), spread_narrow t offset 4 whole l))

  bytes_narrow : (t offset count : ℕ) (first : ℤ) → offset + 4 * ((count + 3) / 4) ≤ 1000000 → Narrow
      (bytes_code k b t offset count first)
  bytes_narrow t offset count first l =
      let whole = either (nat_lt count 4) [] (i.Literal t (byte_word 4 first) ∷ i.Store b offset t
      ∷ spread_code k b t offset 4 (4 * (count / 4))) tt
      (tt, (at_narrow b offset (omega (arith, l)), spread_narrow t offset 4 (4 * (count / 4)) (omega (arith, l)))) in
      let rest = either (nat_eq (count % 4) 0) []
      (i.Literal t (byte_word (count % 4) first) ∷ i.Store b (offset + 4 * (count / 4)) t ∷ []) tt
      (tt, (at_narrow b (offset + 4 * (count / 4)) (omega (arith, l)), tt)) in
      both _ _ whole rest

  array_narrow : (t offset count : ℕ) (shape : Shape) → offset + byte_count (ArrayShape count shape) ≤ 1000000
      → (offset + byte_count shape ≤ 1000000 → Narrow (first_code k b t offset shape))
      → (n : ℕ) → count * word_count shape ≡ n → Narrow
      (if nat_eq n 0 then [] else (first_code k b t offset shape ++ spread_code k b t offset (byte_count shape)
      (count * byte_count shape)))
  array_narrow t offset count shape l c zero e = tt
  array_narrow t offset count shape l c (suc n) e =
      let m = part_small count (word_count shape) n e in
      either (nat_eq (suc n) 0) [] _ tt (both (first_code k b t offset shape) _ (c (omega (arith, l, m)))
      (spread_narrow t offset (byte_count shape) (count * byte_count shape) (omega (arith, l, m))))

  mutual
    pub first_narrow : (t offset : ℕ) (shape : Shape) → offset + byte_count shape ≤ 1000000 → Narrow
        (first_code k b t offset shape)
    first_narrow t offset (NumberShape first narrow) l = (tt, (at_narrow b offset (omega (arith, l)), tt))
    first_narrow t offset (PointerShape pointer) l = (tt, (at_narrow b offset (omega (arith, l)), tt))
    first_narrow t offset SetShape l = zero_narrow t offset 32 (omega (arith, l))
    first_narrow t offset (ByteShape count first) l = bytes_narrow t offset count first l
    first_narrow t offset (ArrayShape count shape) l = array_narrow t offset count shape l
        (λ q. first_narrow t offset shape q) (count * word_count shape) refl
    first_narrow t offset (RecordShape shapes) l = fields_narrow t offset shapes l

    fields_narrow : (t offset : ℕ) (shapes : Shapes) → offset + byte_count (RecordShape shapes) ≤ 1000000 → Narrow
        (fields_code k b t offset shapes)
    fields_narrow t offset no_shape l = tt
    fields_narrow t offset (shape_before shape rest) l =
        both (first_code k b t offset shape) _ (first_narrow t offset shape (omega (arith, l)))
        (fields_narrow t (offset + byte_count shape) rest (omega (arith, l)))

pub tests_narrow : (list : List ℤ) (d past : ℕ) → Narrow (tests_code list d past)
tests_narrow [] d past = (tt, tt)
tests_narrow (n ∷ []) d past = (tt, tt)
tests_narrow (n ∷ m ∷ rest) d past = (tt, tests_narrow (m ∷ rest) d past)

pub room_narrow : (whole_type part_type : DataType) (t line : ℕ) → Narrow (room_code whole_type part_type t line)
room_narrow whole part t line = either (nat_le (value_count (index_of part)) (value_count (index_of whole))) _
    (i.Trap 5 line ∷ []) (tt, tt) (tt, tt)

pub for_narrow : (direction : Direction) (a : ℕ) (limit : Operand) (offset t : ℕ) (checks body : List Instruction)
    → offset < NUMBER_LIMIT → Narrow checks → Narrow body → Narrow (for_code direction a limit offset t checks body)
for_narrow direction a limit offset t checks body l c e =
    (tt, both checks _ c (l, (tt, (tt, (l, both body _ e (l, (tt, tt)))))))

module _ (k : Scope) where
  pub components_narrow : (packing : Bool) (a b n : ℕ) (from_bytes to_bytes : Bool) (width t : ℕ) → Narrow
      (components_code k packing a b n from_bytes to_bytes width t)
  components_narrow packing a b n true true width t = (tt, (tt, tt))
  components_narrow packing a b n true false width t = (tt, (tt, tt))
  components_narrow packing a b n false true width t = (tt, (tt, tt))
  components_narrow packing a b n false false width t = (tt, (tt, tt))
