-- What first values, transfers of components, and the pieces of `case`, `for` and `write` use.
use Rattle.std.proofs.Common.{ℕ, suc, ◌+◌, ◌*◌, ◌/◌, ◌%◌, ◌<◌, ◌≤◌, Bool, true, false, nat_le, nat_lt, nat_eq, List}
use Rattle.std.proofs.Common.{[], ◌∷◌, ℤ, pos, Option, Some, None, arith}
use Rattle.ps_tree.specs.declared.tree.operators.Direction.{Direction}
use Rattle.ps_tree.specs.Types.{DataType}
use Rattle.ps_tree.specs.Sizes.{value_count}
use Rattle.ps_tree.specs.Tree.{Place, Variable}
use Rattle.ps_meaning.specs.Expressions.{index_of}
use Rattle.tac_code.specs.declared.code.Operand.{Operand}
use Rattle.tac_code.specs.declared.code.Base.{Base}
use Rattle.tac_code.specs.declared.code.Instruction.{Instruction}
use Rattle.tac_code.specs.declared.code.Instruction.TheVariants as i
use Rattle.ps_lower_layout.specs.Shapes.{Shape, NumberShape, PointerShape, SetShape, ByteShape, ArrayShape}
use Rattle.ps_lower_layout.specs.Shapes.{RecordShape, Shapes, no_shape, shape_before, word_count, byte_count}
use Rattle.ps_lower_code.specs.Scopes.{Scope}
use Rattle.ps_lower_code.specs.Calling.{selectors_call}
use Rattle.ps_lower_code.specs.Values.{place_temporary}
use Rattle.ps_lower_code.specs.Statements.{spread_code, zero_code, byte_word, bytes_code, first_code, fields_code}
use Rattle.ps_lower_code.specs.Statements.{truth_text, components_code, tests_code, body_depth, turns_code, for_code}
use Rattle.ps_lower_code.specs.Statements.{room_code}
use Rattle.ps_lower_bounds.proofs.Uses.{OperandUnder, BaseUnder, Under, both, either, at_base}
use Rattle.ps_lower_bounds.proofs.Pieces.{kept_most}

pub temporary_most : (p : Place) (d : ℕ) → (d ≤ place_temporary p d) × (place_temporary p d ≤ suc d)
temporary_most (Variable name selectors) d = kept_most (selectors_call selectors) d

module _ (k : Scope) (D X : ℕ) (b : Base) (u : BaseUnder D b) where
  spread_under : (t offset n whole : ℕ) → t + 5 ≤ D → Under D X (spread_code k b t offset n whole)
  spread_under t offset n whole h =
      either D X (nat_le whole n) [] _ tt
      ((omega (arith, h), at_base D X b _ u), ((omega (arith, h), at_base D X b _ u), omega (arith, h)))

  stored_under : (t offset : ℕ) (z : ℤ) → t + 5 ≤ D → Under D X (i.Literal t z ∷ i.Store b offset t ∷ [])
  stored_under t offset z h = (omega (arith, h), ((at_base D X b _ u, omega (arith, h)), tt))

  zero_under : (t offset whole : ℕ) → t + 5 ≤ D → Under D X (zero_code k b t offset whole)
  zero_under t offset whole h = (
    omega (arith, h),
    ((at_base D X b _ u, omega (arith, h)), spread_under t offset 4 whole h),
  )

  bytes_under : (t offset count : ℕ) (first : ℤ) → t + 5 ≤ D → Under D X (bytes_code k b t offset count first)
  bytes_under t offset count first h =
      let whole = either D X (nat_lt count 4) []
      (i.Literal t (byte_word 4 first) ∷ i.Store b offset t ∷ spread_code k b t offset 4 (4 * (count / 4))) tt
      (omega (arith, h), ((at_base D X b _ u, omega (arith, h)), spread_under t offset 4 (4 * (count / 4)) h)) in
      let rest = either D X (nat_eq (count % 4) 0) []
      (i.Literal t (byte_word (count % 4) first) ∷ i.Store b (offset + 4 * (count / 4)) t ∷ []) tt
      (stored_under t (offset + 4 * (count / 4)) (byte_word (count % 4) first) h) in
      both D X _ _ whole rest

  mutual
    pub first_under : (t offset : ℕ) (shape : Shape) → t + 5 ≤ D → Under D X (first_code k b t offset shape)
    first_under t offset (NumberShape first narrow) h = stored_under t offset first h
    first_under t offset (PointerShape pointer) h = stored_under t offset (pos 0) h
    first_under t offset SetShape h = zero_under t offset 32 h
    first_under t offset (ByteShape count first) h = bytes_under t offset count first h
    first_under t offset (ArrayShape count shape) h =
        either D X (nat_eq (count * word_count shape) 0) [] _ tt
        (both D X (first_code k b t offset shape) _ (first_under t offset shape h)
        (spread_under t offset (byte_count shape) (count * byte_count shape) h))
    first_under t offset (RecordShape shapes) h = fields_under t offset shapes h

    fields_under : (t offset : ℕ) (shapes : Shapes) → t + 5 ≤ D → Under D X (fields_code k b t offset shapes)
    fields_under t offset no_shape h = tt
    fields_under t offset (shape_before shape rest) h = both D X (first_code k b t offset shape) _
        (first_under t offset shape h) (fields_under t (offset + byte_count shape) rest h)

module _ (D X : ℕ) where
  pub tests_under : (list : List ℤ) (d past : ℕ) → d < D → Under D X (tests_code list d past)
  tests_under [] d past h = (tt, tt)
  tests_under (n ∷ []) d past h = ((h, tt), tt)
  tests_under (n ∷ m ∷ rest) d past h = ((h, tt), tests_under (m ∷ rest) d past h)

  pub room_under : (whole_type part_type : DataType) (t line : ℕ) → t < D → Under D X
      (room_code whole_type part_type t line)
  room_under whole part t line h = either D X (nat_le (value_count (index_of part)) (value_count (index_of whole))) _
      (i.Trap 5 line ∷ []) (h, tt) (tt, tt)

  turns_under : (direction : Direction) (limit : Operand) (offset t : ℕ) (body : List Instruction) → t < D
      → OperandUnder D limit → Under D X body → Under D X (turns_code direction limit offset t body)
  turns_under direction limit offset t body h l u = ((h, h, tt), ((tt, h), both D X body _ u ((h, tt), ((h, l), tt))))

  pub for_under : (direction : Direction) (a : ℕ) (limit : Operand) (offset t : ℕ) (checks body : List Instruction)
      → a < D → t < D → OperandUnder D limit → Under D X checks → Under D X body → Under D X
      (for_code direction a limit offset t checks body)
  for_under direction a limit offset t checks body h m l c u =
      ((h, l), both D X checks _ c ((tt, h), (tt, turns_under direction limit offset t body m l u)))

pub body_depth_most : (z : Option ℤ) (d l : ℕ) → d ≤ l → l ≤ d + 3 → (d ≤ body_depth z d l) × (body_depth z d l ≤ d + 4)
body_depth_most None d l h m = omega (arith, h, m)
body_depth_most (Some z) d l h m = omega (arith, h, m)

module _ (k : Scope) (D X : ℕ) where
  pub components_under : (packing : Bool) (a b n : ℕ) (from_bytes to_bytes : Bool) (width t : ℕ) → a < D → b < D → t < D
      → Under D X (components_code k packing a b n from_bytes to_bytes width t)
  components_under packing a b n true true width t h l m = omega (arith, h, l, m)
  components_under packing a b n true false width t h l m = omega (arith, h, l, m)
  components_under packing a b n false true width t h l m = omega (arith, h, l, m)
  components_under packing a b n false false width t h l m = omega (arith, h, l, m)

  pub truth_text_under : (a t n : ℕ) → a < D → t < D → n < D → Under D X (truth_text k a t n)
  truth_text_under a t n h l m = omega (arith, h, l, m)
