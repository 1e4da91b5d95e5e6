-- First values, transfers of components, and the pieces of `case`, `for` and `write` are closed.
use Rattle.std.proofs.Common.{◌≡◌, ℕ, zero, suc, ◌+◌, ◌-◌, ◌*◌, ◌/◌, ◌%◌, ◌^◌, ◌<◌, ◌≤◌, Bool, true, false, ◌&&◌}
use Rattle.std.proofs.Common.{nat_le, nat_lt, nat_eq, if◌then◌else◌, List, [], ◌∷◌, ◌++◌, length, ℤ, pos, negsuc, ◌+ℤ◌}
use Rattle.std.proofs.Common.{int_le, refl, arith, leb-true, length-append, w32}
use Rattle.std.proofs.lemmas.Bool.{and_parts}
use mir.Facts.{sfits_to_z}
use lib.Signed.{mag}
use Rattle.ps_tree.specs.declared.tree.operators.Direction.{Direction}
use Rattle.ps_tree.specs.declared.tree.operators.Direction.TheVariants.{To, Downto}
use Rattle.ps_tree.specs.Types.{DataType}
use Rattle.ps_tree.specs.Sizes.{value_count}
use Rattle.ps_meaning.specs.Expressions.{index_of}
use Rattle.tac_code.specs.declared.code.Operand.{Operand}
use Rattle.tac_code.specs.declared.code.Operand.TheVariants as operand
use Rattle.tac_code.specs.declared.code.Base.{Base}
use Rattle.tac_code.specs.declared.code.Base.TheVariants as base
use Rattle.tac_code.specs.declared.code.BitOperator.TheVariants as bits
use Rattle.tac_code.specs.declared.code.Relation.TheVariants.{NotEqual}
use Rattle.tac_code.specs.declared.code.Instruction.{Instruction}
use Rattle.tac_code.specs.declared.code.Instruction.TheVariants as i
use Rattle.tac_code.specs.Numbers.{number_of, natural}
use Rattle.tac_code.specs.Sound.{IsLine}
use Rattle.tac_code.specs.declared.code.TheConstants.{NUMBER_LIMIT}
use Rattle.ps_lower_layout.specs.Shapes.{Shape, NumberShape, PointerShape, SetShape, ByteShape, ArrayShape}
use Rattle.ps_lower_layout.specs.Shapes.{RecordShape, Shapes, no_shape, shape_before, word_count, byte_count}
use Rattle.ps_lower_code.specs.Scopes.{Scope}
use Rattle.ps_lower_code.specs.Statements.{bytes_below, spread_code, zero_code, byte_word, bytes_code, first_code}
use Rattle.ps_lower_code.specs.Statements.{fields_code, truth_text, components_code, tests_code, step_number}
use Rattle.ps_lower_code.specs.Statements.{past_relation, turns_code, for_code, room_code}
use Rattle.ps_lower_code.specs.First.{FirstFits, FieldsFit}
use Rattle.ps_lower_code.specs.Fits.{AllIntegers}
use Rattle.ps_lower_bounds.specs.Forms.{IsSmall}
use Rattle.ps_lower_bounds.proofs.Few.{IsPart}
use Rattle.ps_lower_bounds.proofs.Closed.{IsInt, to_int, IsNumber, Closed, anywhere, joined, both, either}

-- ---- words of bytes

in_word : (z : ℤ) → mag z < NUMBER_LIMIT → IsInt z
in_word (pos n) l = l
in_word (negsuc n) l = l

word_int : (n : ℕ) → n < 2 ^ 32 → IsInt (number_of n)
word_int n l = in_word (number_of n) (sfits_to_z {w = w32} {n = n} (record { fits = l })).sfits

byte_most : (b : ℤ) → (int_le (pos 0) b && int_le b (pos 255)) ≡ true → natural b ≤ 255
byte_most (pos n) e = leb-true n 255 (and_parts (nat_le 0 n) (nat_le n 255) e).1
byte_most (negsuc n) e = omega arith

bytes_most : (n b : ℕ) → n ≤ 4 → b ≤ 255 → bytes_below n b < 2 ^ 32
bytes_most zero b l m = omega arith
bytes_most (suc zero) b l m = omega (arith, m)
bytes_most (suc (suc zero)) b l m = omega (arith, m)
bytes_most (suc (suc (suc zero))) b l m = omega (arith, m)
bytes_most (suc (suc (suc (suc zero)))) b l m = omega (arith, m)
bytes_most (suc (suc (suc (suc (suc n))))) b l m = absurd (omega (arith, l))

-- one component of an array that has any is as small as the array
pub part_small : (count w n : ℕ) → count * w ≡ suc n → w ≤ count * w
part_small zero w n e = absurd (omega (arith, e))
part_small (suc count) w n e = omega arith

step_int : (direction : Direction) → IsInt (step_number direction)
step_int To = omega arith
step_int Downto = omega arith

module _ (R T : ℕ) (k : Scope) (h : length k.program.routines ≡ R) (b : Base) where
  spread_closed : (t offset n whole : ℕ) → IsSmall whole → Closed R T 0 0 (spread_code k b t offset n whole)
  spread_closed t offset n whole s = either R T (nat_le whole n) [] _ tt (tt, tt, (tt, tt, omega (arith, h, s)))

  zero_closed : (t offset whole : ℕ) → IsSmall whole → Closed R T 0 0 (zero_code k b t offset whole)
  zero_closed t offset whole s = (
    omega arith,
    tt,
    (tt, tt, anywhere R T (spread_code k b t offset 4 whole) 2 0 (spread_closed t offset 4 whole s)),
  )

  bytes_closed : (t offset count : ℕ) (first : ℤ) → natural first ≤ 255 → IsSmall (4 * ((count + 3) / 4))
      → Closed R T 0 0 (bytes_code k b t offset count first)
  bytes_closed t offset count first f s =
      let w : IsInt (byte_word 4 first) = word_int (bytes_below 4 (natural first))
      (bytes_most 4 (natural first) (omega arith) f) in
      let v : IsInt (byte_word (count % 4) first) = word_int (bytes_below (count % 4) (natural first))
      (bytes_most (count % 4) (natural first) (omega arith) f) in
      let whole = either R T (nat_lt count 4) []
      (i.Literal t (byte_word 4 first) ∷ i.Store b offset t ∷ spread_code k b t offset 4 (4 * (count / 4))) tt (
        w,
        tt,
        (
          tt,
          tt,
          anywhere R T (spread_code k b t offset 4 (4 * (count / 4))) 2 0
              (spread_closed t offset 4 (4 * (count / 4)) (omega (arith, s))),
        ),
      ) in
      let rest = either R T (nat_eq (count % 4) 0) []
      (i.Literal t (byte_word (count % 4) first) ∷ i.Store b (offset + 4 * (count / 4)) t ∷ []) tt
      (v, tt, (tt, tt, tt)) in
      both R T _ _ whole rest

  array_closed : (t offset count : ℕ) (shape : Shape) → IsSmall (byte_count (ArrayShape count shape))
      → (IsSmall (byte_count shape) → Closed R T 0 0 (first_code k b t offset shape))
      → (n : ℕ) → count * word_count shape ≡ n → Closed R T 0 0
      (if nat_eq n 0 then [] else (first_code k b t offset shape ++ spread_code k b t offset (byte_count shape)
      (count * byte_count shape)))
  array_closed t offset count shape s c zero e = tt
  array_closed t offset count shape s c (suc n) e =
      let m = part_small count (word_count shape) n e in
      either R T (nat_eq (suc n) 0) [] _ tt
      (both R T (first_code k b t offset shape) _ (c (omega (arith, s, m)))
      (spread_closed t offset (byte_count shape) (count * byte_count shape) (omega (arith, s))))

  mutual
    pub first_closed : (t offset : ℕ) (shape : Shape) → FirstFits shape → IsSmall (byte_count shape) → Closed R T 0 0
        (first_code k b t offset shape)
    first_closed t offset (NumberShape first narrow) f s = (to_int first f.0, tt, (tt, tt, tt))
    first_closed t offset (PointerShape pointer) f s = (omega arith, tt, (tt, tt, tt))
    first_closed t offset SetShape f s = zero_closed t offset 32 (omega arith)
    first_closed t offset (ByteShape count first) f s = bytes_closed t offset count first (byte_most first f) s
    first_closed t offset (ArrayShape count shape) f s = array_closed t offset count shape s
        (λ q. first_closed t offset shape f q) (count * word_count shape) refl
    first_closed t offset (RecordShape shapes) f s = fields_closed t offset shapes f s

    fields_closed : (t offset : ℕ) (shapes : Shapes) → FieldsFit shapes → IsSmall (byte_count (RecordShape shapes))
        → Closed R T 0 0 (fields_code k b t offset shapes)
    fields_closed t offset no_shape f s = tt
    fields_closed t offset (shape_before shape rest) f s =
        both R T (first_code k b t offset shape) _ (first_closed t offset shape f.0 (omega (arith, s)))
        (fields_closed t (offset + byte_count shape) rest f.1 (omega (arith, s)))

module _ (R T : ℕ) where
  -- they lead past themselves by `past`, or to what is after them
  pub tests_closed : (list : List ℤ) (d past b a : ℕ) → AllIntegers list → past ≤ a → Closed R T b a
      (tests_code list d past)
  tests_closed [] d past b a f l = (tt, omega (arith, l), tt)
  tests_closed (n ∷ []) d past b a f l = (to_int n f.0, omega (arith, l), tt)
  tests_closed (n ∷ m ∷ rest) d past b a f l =
      (to_int n f.0, omega arith, tests_closed (m ∷ rest) d past (suc b) a f.1 l)

  pub room_closed : (whole_type part_type : DataType) (t line : ℕ) → IsPart whole_type part_type → IsLine line
      → Closed R T 0 0 (room_code whole_type part_type t line)
  room_closed whole part t line f w =
      either R T (nat_le (value_count (index_of part)) (value_count (index_of whole))) _ (i.Trap 5 line ∷ []) (
        (
          to_int (index_of whole).low f.0.0,
          to_int
              ((index_of whole).low +ℤ pos (value_count (index_of whole) - value_count (index_of part))) f.1,
          omega arith,
          w,
        ),
        tt,
        tt,
      ) ((omega arith, w), tt, tt)

  turns_closed : (direction : Direction) (limit : Operand) (offset t : ℕ) (body : List Instruction) → IsNumber limit
      → Closed R T 0 0 body → Closed R T 0 0 (turns_code direction limit offset t body)
  turns_closed direction limit offset t body l c =
      joined R T (i.Bits bits.Plus t t (operand.Number (step_number direction)) ∷ i.Store base.Frame offset t ∷ body)
      (i.Load t base.Frame offset ∷ i.BranchBack NotEqual t limit (length body + 3) ∷ []) 0 0
      (step_int direction, tt, (tt, tt, anywhere R T body 2 2 c)) (tt, tt, (l, omega arith, tt))

  pub for_closed : (direction : Direction) (a : ℕ) (limit : Operand) (offset t : ℕ) (checks body : List Instruction)
      → IsNumber limit → Closed R T 0 0 checks → Closed R T 0 0 body → Closed R T 0 0
      (for_code direction a limit offset t checks body)
  for_closed direction a limit offset t checks body l c e =
      let n = length-append body (i.Load t base.Frame offset ∷ i.BranchBack NotEqual t limit (length body + 3) ∷ []) in
      joined R T (i.Branch (past_relation direction) a limit (length checks + length body + 6) ∷ checks)
      (i.Store base.Frame offset a ∷ i.Jump 2 ∷ turns_code direction limit offset t body) 0 0
      (l, omega (arith, n), anywhere R T checks 1 _ c) (
        tt,
        tt,
        (
          tt,
          omega (arith, n),
          anywhere R T (turns_code direction limit offset t body) _ 0
              (turns_closed direction limit offset t body l e),
        ),
      )

module _ (R T : ℕ) (k : Scope) (h : length k.program.routines ≡ R) where
  pub components_closed : (packing : Bool) (a b n : ℕ) (from_bytes to_bytes : Bool) (width t : ℕ) → IsSmall n → IsSmall
      (n * width) → Closed R T 0 0 (components_code k packing a b n from_bytes to_bytes width t)
  components_closed packing a b n true true width t s q = omega (arith, h, s)
  components_closed packing a b n true false width t s q = omega (arith, h, s)
  components_closed packing a b n false true width t s q = omega (arith, h, s)
  components_closed packing a b n false false width t s q = omega (arith, h, q)

  pub truth_text_closed : (a t n : ℕ) → Closed R T 0 0 (truth_text k a t n)
  truth_text_closed a t n = omega arith
