-- The words of each instruction of three-address code. R14 is the frame of the innermost activation and R13 that of the
-- program block; R12 and R15 are scratch registers, and operands in other registers are used where they are.
use Rattle.std.specs.Prelude.{ℕ, zero, suc, ◌+◌, ◌-◌, ◌*◌, Bool, false, ◌&&◌, nat_eq, nat_lt, int_lt, if◌then◌else◌}
use Rattle.std.specs.Prelude.{List, [], ◌∷◌, ◌++◌, length, slice_index, Option, Some, None, ℤ, pos, ◌+ℤ◌}
use Rattle.risc_word.specs.declared.instr.Operation.{Operation}
use Rattle.risc_word.specs.declared.instr.Operation.TheVariants as op
use Rattle.risc_word.specs.declared.instr.Operand as machine
use Rattle.risc_word.specs.declared.instr.Operand.TheVariants.{Content, Constant}
use Rattle.risc_word.specs.declared.instr.Width.{Width}
use Rattle.risc_word.specs.declared.instr.Width.TheVariants.{Word, Byte}
use Rattle.risc_word.specs.declared.instr.Condition.{Condition}
use Rattle.risc_word.specs.declared.instr.Condition.TheVariants as on
use Rattle.risc_word.specs.declared.instr.Target.TheVariants.{Absolute}
use Rattle.risc_word.specs.declared.instr.Instr.TheVariants as word
use Rattle.tac_code.specs.declared.code.Operator.{Operator}
use Rattle.tac_code.specs.declared.code.Operator.TheVariants.{Add, Subtract, Multiply, Divide, Modulo}
use Rattle.tac_code.specs.declared.code.Relation.{Relation}
use Rattle.tac_code.specs.declared.code.Relation.TheVariants.{Equal, NotEqual, Less, LessEqual, Greater, GreaterEqual}
use Rattle.tac_code.specs.declared.code.Operand.{Operand}
use Rattle.tac_code.specs.declared.code.Operand.TheVariants as operand
use Rattle.tac_code.specs.declared.code.Base.{Base}
use Rattle.tac_code.specs.declared.code.Base.TheVariants as base
use Rattle.tac_code.specs.declared.code.Instruction.{Instruction}
use Rattle.tac_code.specs.declared.code.Instruction.TheVariants.{Literal, Copy, Arithmetic, Bits, Compare, CheckRange}
use Rattle.tac_code.specs.declared.code.Instruction.TheVariants.{CheckPointer, Text, Offset, Index, RoutineValue, Load}
use Rattle.tac_code.specs.declared.code.Instruction.TheVariants.{Store, LoadByte, StoreByte, Jump, JumpBack, Branch}
use Rattle.tac_code.specs.declared.code.Instruction.TheVariants.{BranchBack, Call, CallValue, Return, Trap, Take, Put}
use Rattle.tac_code.specs.declared.code.Instruction.TheVariants.{New, End}
use Rattle.tac_code.specs.Numbers.{is_zero, word_of, steps_above}
use Rattle.risc_alloc.specs.Flow.{is_it}
use Rattle.risc_alloc.specs.declared.homes.Home.{Home}
use Rattle.risc_alloc.specs.declared.homes.Home.TheVariants.{Slot, Reg}
use Rattle.risc_emit_relation.specs.Context.{Context, home, is_program, slot_at}
use Rattle.risc_emit_forms.specs.Peephole.{flagged_at, short_of, near_of, deferred_at, folded}
use Rattle.risc_emit_forms.specs.Pieces.{Label, AtPlace, AtEntry, AtText, Piece, Plain, Goes, Fails, Enters, Joins}
use Rattle.risc_emit_forms.specs.Pieces.{EntersAt, High, Low}
use Rattle.risc_emit_forms.specs.Words.{is_near, is_small, constant, exact, number, load, store, bit_operation}
use Rattle.risc_emit_forms.specs.Words.{condition, skip, is_divisor, rounded, beyond, is_null, brief, is_register}
use Rattle.risc_emit_forms.specs.Words.{carried, is_taken, is_stored, tested, idle, device}

module _ (c : Context) (r : ℕ) where
  -- an operand is in its register, or is loaded into register d
  abbrev pub fetch : ℕ → Home → List Piece
  fetch d (Reg q) = []
  fetch d (Slot k) = load d 14 (slot_at c r k)

  abbrev pub fetched : ℕ → Home → ℕ
  fetched d (Reg q) = q
  fetched d (Slot k) = d

  -- register d takes an operand, wherever it is
  abbrev pub bring : ℕ → Home → List Piece
  bring d (Reg q) = Plain (word.Move d (Content q)) ∷ []
  bring d (Slot k) = load d 14 (slot_at c r k)

  -- the register in which a result is made, and the store of it into its slot
  abbrev pub target : Home → ℕ
  target (Reg q) = q
  target (Slot k) = 12

  abbrev pub save : Home → List Piece
  save (Reg q) = []
  save (Slot k) = store 12 14 (slot_at c r k)

  -- a result in R12 goes to its home
  abbrev pub receive : Home → List Piece
  receive (Reg q) = Plain (word.Move q (Content 12)) ∷ []
  receive (Slot k) = store 12 14 (slot_at c r k)

  -- register d receives an operand, unless it is the operand's own
  abbrev pub into : ℕ → Home → List Piece
  into d (Reg q) = if nat_eq q d then [] else Plain (word.Move d (Content q)) ∷ []
  into d (Slot k) = load d 14 (slot_at c r k)

  -- the result of a routine goes from R0 to its home
  abbrev pub accept : Home → List Piece
  accept (Reg q) = if nat_eq q 0 then [] else Plain (word.Move q (Content 0)) ∷ []
  accept (Slot k) = store 0 14 (slot_at c r k)

  -- a right operand: a temporary's, an immediate, or a number in R15
  abbrev pub right : Operand → List Piece
  right (operand.Temporary t) = fetch 15 (home c r t)
  right (operand.Number z) = if is_small z then [] else exact 15 (word_of z)

  abbrev pub right_operand : Operand → machine.Operand
  right_operand (operand.Temporary t) = Content (fetched 15 (home c r t))
  right_operand (operand.Number z) = if is_small z then Constant z else Content 15

  -- ---- bases

  -- the address of a base: a register and an offset
  abbrev pub base_code : Base → List Piece
  base_code base.Frame = []
  base_code base.Scratch = []
  base_code base.Program = []
  base_code (base.Temporary t) = fetch 12 (home c r t)

  abbrev pub base_register : Base → ℕ
  base_register base.Frame = 14
  base_register base.Scratch = 14
  base_register base.Program = 13
  base_register (base.Temporary t) = fetched 12 (home c r t)

  abbrev pub base_offset : Base → ℕ → ℕ
  base_offset base.Frame n = c.frame_at r + n
  base_offset base.Scratch n = c.scratch_at r + n
  base_offset base.Program n = c.frame_at 0 + n
  base_offset (base.Temporary t) n = n

  -- the same with an offset that a load or a store can take
  abbrev pub reach : Base → ℕ → List Piece
  reach a n =
      if is_near (base_offset a n) then base_code a
      else base_code a ++ (constant 15 (base_offset a n) ++ Plain
      (word.Operate op.Add 12 (base_register a) (Content 15)) ∷ [])

  abbrev pub reach_register : Base → ℕ → ℕ
  reach_register a n = if is_near (base_offset a n) then base_register a else 12

  abbrev pub reach_offset : Base → ℕ → ℕ
  reach_offset a n = if is_near (base_offset a n) then base_offset a n else 0

  abbrev pub load_form : Width → ℕ → Base → ℕ → List Piece
  load_form width t a n =
      reach a n ++ (Plain (word.Load width (target (home c r t)) (reach_register a n) (pos (reach_offset a n))) ∷ save
      (home c r t))

  -- a word at an offset from a base, or from a register that is short of an offset
  abbrev pub word_form : Option (ℕ × ℤ) → ℕ → Base → ℕ → List Piece
  word_form None t a n = load_form Word t a n
  word_form (Some deferred) t a n = Plain (word.Load Word deferred.0 deferred.0 (deferred.1 +ℤ pos n)) ∷ []

  abbrev pub store_form : Width → Base → ℕ → ℕ → List Piece
  store_form width a n b =
      reach a n ++ (fetch 15 (home c r b) ++ Plain
      (word.Store width (fetched 15 (home c r b)) (reach_register a n) (pos (reach_offset a n))) ∷ [])

  -- register d takes the address n bytes after a base
  abbrev pub address : ℕ → Base → ℕ → List Piece
  address d a n =
      base_code a ++ (if nat_lt (base_offset a n) 65536 then Plain
      (word.Operate op.Add d (base_register a) (Constant (pos (base_offset a n)))) ∷ [] else constant 15
      (base_offset a n) ++ Plain (word.Operate op.Add d (base_register a) (Content 15)) ∷ [])

  -- ---- instructions

  -- a temporary takes another one
  abbrev pub copy : Home → Home → List Piece
  copy (Reg q) from = bring q from
  copy (Slot k) from = fetch 12 from ++ store (fetched 12 from) 14 (slot_at c r k)

  -- an operation on two operands, its result in the register of a home
  abbrev pub operate : Operation → Home → ℕ → Operand → Piece
  operate o t a b = Plain (word.Operate o (target t) (fetched 12 (home c r a)) (right_operand b))

  abbrev pub both : ℕ → Operand → List Piece → List Piece
  both a b rest = fetch 12 (home c r a) ++ (right b ++ rest)

  abbrev pub difference : ℕ → Operand → Piece
  difference a b = Plain (word.Operate op.Sub 12 (fetched 12 (home c r a)) (right_operand b))

  -- whether N and Z are known to be those of a temporary's register
  abbrev pub is_flagged : Option ℕ → ℕ → Bool
  is_flagged flagged a = is_it a flagged && is_register (home c r a)

  -- whether a temporary's register already holds its difference from 0, with N and Z
  abbrev pub is_own : Option ℕ → ℕ → ℕ → Operand → Bool
  is_own flagged t a b = is_flagged flagged a && (nat_eq t a && is_null b)

  -- a difference that is not 0 becomes 1
  abbrev pub unlike : ℕ → List Piece
  unlike t = skip on.Equal 1 ∷ Plain (word.Move (target (home c r t)) (Constant (pos 1))) ∷ save (home c r t)

  -- whether two values differ
  abbrev pub unlike_form : Option ℕ → ℕ → ℕ → Operand → List Piece
  unlike_form flagged t a b =
      if is_own flagged t a b then unlike t
      else both a b (operate op.Sub (home c r t) a b ∷ unlike t)

  -- whether a relation holds
  abbrev pub truth_form : Relation → ℕ → ℕ → Operand → List Piece
  truth_form relation t a b =
      both a b (difference a b ∷ skip (condition relation) 2 ∷ Plain
      (word.Move (target (home c r t)) (Constant (pos 0))) ∷ skip on.Always 1 ∷ Plain
      (word.Move (target (home c r t)) (Constant (pos 1))) ∷ save (home c r t))

  abbrev pub compare_form : Option ℕ → Relation → ℕ → ℕ → Operand → List Piece
  compare_form flagged Equal t a b = truth_form Equal t a b
  compare_form flagged NotEqual t a b = unlike_form flagged t a b
  compare_form flagged Less t a b = truth_form Less t a b
  compare_form flagged LessEqual t a b = truth_form LessEqual t a b
  compare_form flagged Greater t a b = truth_form Greater t a b
  compare_form flagged GreaterEqual t a b = truth_form GreaterEqual t a b

  -- ---- numbers

  abbrev pub multiply_form : ℕ → ℕ → Operand → ℕ → ℕ → List Piece
  multiply_form t a b error line =
      both a b (operate op.Mul (home c r t) a b
      ∷ tested error (beyond ++ Fails on.NotEqual error line ∷ []) (save (home c r t)))

  -- R15 takes a right operand, with N and Z
  abbrev pub divisor : Operand → List Piece
  divisor (operand.Temporary t) = bring 15 (home c r t)
  divisor (operand.Number z) = number 15 z

  -- the quotient by R15
  abbrev pub quotient : ℕ → List Piece
  quotient a =
      fetch 12 (home c r a) ++ (Plain (word.Operate op.Div 12 (fetched 12 (home c r a)) (Content 15)) ∷ rounded 12)

  -- by the least integer: 1 or 0
  abbrev pub quotient_by_least : ℕ → List Piece
  quotient_by_least a =
      fetch 12 (home c r a) ++ (Plain (word.Operate op.Sub 12 (fetched 12 (home c r a)) (Content 15)) ∷ skip on.Equal 2
      ∷ Plain (word.Move 12 (Constant (pos 0))) ∷ skip on.Always 1 ∷ Plain (word.Move 12 (Constant (pos 1))) ∷ [])

  -- a negation that is not an integer is an error
  abbrev pub opposite_test : ℕ → ℕ → Piece
  opposite_test error line = if nat_eq error 0 then idle else Fails on.OverflowSet error line

  -- by a divisor below 0, which is negated, and then the quotient
  abbrev pub quotient_by_negative : ℕ → ℕ → ℕ → List Piece
  quotient_by_negative a error line =
      Plain (word.Move 12 (Constant (pos 0))) ∷ Plain (word.Operate op.Sub 15 12 (Content 15)) ∷ skip on.OverflowSet
      (length (quotient a) + 4) ∷ (quotient a
      ++ (Plain (word.Move 15 (Constant (pos 0))) ∷ Plain (word.Operate op.Sub 12 15 (Content 12))
      ∷ opposite_test error line ∷ skip on.Always (length (quotient_by_least a)) ∷ quotient_by_least a))

  abbrev pub divide_form : ℕ → ℕ → Operand → ℕ → ℕ → List Piece
  divide_form t a b error line =
      if is_divisor b then fetch 12 (home c r a)
      ++ (Plain (word.Operate op.Div (target (home c r t)) (fetched 12 (home c r a)) (right_operand b))
      ∷ (rounded (target (home c r t)) ++ save (home c r t)))
      else divisor b ++ (Fails on.Equal 2 line ∷ skip on.Minus (length (quotient a) + 1)
      ∷ (quotient a ++ (skip on.Always (length (quotient_by_negative a error line))
      ∷ (quotient_by_negative a error line ++ receive (home c r t)))))

  -- a modulus in a register: a temporary's where it is, or in R15
  abbrev pub modulus : Operand → List Piece
  modulus (operand.Temporary t) = fetch 15 (home c r t)
  modulus (operand.Number z) = number 15 z

  abbrev pub modulus_register : Operand → ℕ
  modulus_register (operand.Temporary t) = fetched 15 (home c r t)
  modulus_register (operand.Number z) = 15

  -- what H holds after a division is Pascal's mod
  abbrev pub modulo_form : ℕ → ℕ → Operand → ℕ → List Piece
  modulo_form t a b line =
      if is_divisor b then fetch 12 (home c r a)
      ++ (Plain (word.Operate op.Div 12 (fetched 12 (home c r a)) (right_operand b)) ∷ Plain
      (word.MoveHigh (target (home c r t))) ∷ save (home c r t))
      else modulus b ++ (Plain (word.Operate op.Sub 12 (modulus_register b) (Constant (pos 1))) ∷ Fails on.Less 3 line
      ∷ (fetch 12 (home c r a) ++ (Plain (word.Operate op.Div 12 (fetched 12 (home c r a))
      (Content (modulus_register b))) ∷ Plain (word.MoveHigh (target (home c r t))) ∷ save (home c r t))))

  abbrev pub arithmetic_form : Operator → ℕ → ℕ → Operand → ℕ → ℕ → List Piece
  arithmetic_form Add t a b error line =
      both a b (operate op.Add (home c r t) a b
      ∷ tested error (Fails on.OverflowSet error line ∷ []) (save (home c r t)))
  arithmetic_form Subtract t a b error line =
      both a b (operate op.Sub (home c r t) a b
      ∷ tested error (Fails on.OverflowSet error line ∷ []) (save (home c r t)))
  arithmetic_form Multiply t a b error line = multiply_form t a b error line
  arithmetic_form Divide t a b error line = divide_form t a b error line
  arithmetic_form Modulo t a b error line = modulo_form t a b line

  -- ---- ranges

  -- how far what register a holds is above the lowest number of a range, modulo 2^32: in R12, or in place if the lowest
  -- is 0
  abbrev pub above : ℕ → ℤ → List Piece
  above a low =
      if is_zero low then []
      else right (operand.Number low) ++ (Plain (word.Operate op.Sub 12 a (right_operand (operand.Number low))) ∷ [])

  abbrev pub above_register : ℕ → ℤ → ℕ
  above_register a low = if is_zero low then a else 12

  -- whether register q holds at most n, unsigned: what is below the lowest number of a range is large. R15 is scratch
  abbrev pub at_most : ℕ → ℕ → ℕ → ℕ → List Piece
  at_most q n error line =
      if nat_lt n 65535 then Plain (word.Operate op.Sub 15 q (Constant (pos (suc n)))) ∷ Fails on.CarryClear error line
      ∷ []
      else exact 15 n ++ (Plain (word.Operate op.Sub 15 15 (Content q)) ∷ Fails on.CarrySet error line ∷ [])

  -- whether what register a holds is in a range, which may be empty
  abbrev pub range_code : ℕ → ℤ → ℤ → ℕ → ℕ → List Piece
  range_code a low high error line =
      if int_lt high low then Fails on.Always error line ∷ []
      else above a low ++ at_most (above_register a low) (steps_above low high) error line

  -- how far an index is above the lowest one, tested or not
  abbrev pub index_code : ℕ → ℤ → ℤ → ℕ → ℕ → List Piece
  index_code a low high error line = if nat_eq error 0 then above a low else range_code a low high error line

  abbrev pub check_form : ℕ → ℤ → ℤ → ℕ → ℕ → List Piece
  check_form a low high error line =
      if nat_eq error 0 then idle ∷ []
      else fetch 12 (home c r a) ++ range_code (fetched 12 (home c r a)) low high error line

  -- what register q holds times a width, in R12, or in place if the width is 1
  abbrev pub scaled : ℕ → ℕ → List Piece
  scaled q width =
      if nat_eq width 1 then []
      else right (operand.Number (pos width)) ++ (Plain
      (word.Operate op.Mul 12 q (right_operand (operand.Number (pos width)))) ∷ [])

  abbrev pub scaled_register : ℕ → ℕ → ℕ
  scaled_register q width = if nat_eq width 1 then q else 12

  -- the address n bytes after what register q holds, in R15
  abbrev pub sum : ℕ → ℕ → List Piece
  sum q n =
      if nat_lt n 65536 then Plain (word.Operate op.Add 15 q (Constant (pos n))) ∷ []
      else constant 15 n ++ (Plain (word.Operate op.Add 15 q (Content 15)) ∷ [])

  -- the address of a base: in R15, or in the register where it is
  abbrev pub base_address : Base → List Piece
  base_address base.Frame = sum 14 (c.frame_at r)
  base_address base.Scratch = sum 14 (c.scratch_at r)
  base_address base.Program = sum 13 (c.frame_at 0)
  base_address (base.Temporary t) = fetch 15 (home c r t)

  abbrev pub address_register : Base → ℕ
  address_register base.Frame = 15
  address_register base.Scratch = 15
  address_register base.Program = 15
  address_register (base.Temporary t) = fetched 15 (home c r t)

  -- the address at the distance in register q from a base, or that address short of the offset of the base's block
  abbrev pub component : Option (ℕ × ℤ) → ℕ → Base → ℕ → List Piece
  component None t a q =
      base_address a ++ (Plain (word.Operate op.Add (target (home c r t)) (address_register a) (Content q)) ∷ save
      (home c r t))
  component (Some deferred) t a q = Plain (word.Operate op.Add deferred.0 (base_register a) (Content q)) ∷ []

  abbrev pub steps_form : Option (ℕ × ℤ) → ℕ → Base → ℕ → ℕ → List Piece
  steps_form deferred t a q width = scaled q width ++ component deferred t a (scaled_register q width)

  -- the register that is short of the offset of a block, or the address of another base in a register
  abbrev pub near_code : Base → List Piece
  near_code base.Frame = []
  near_code base.Scratch = []
  near_code base.Program = []
  near_code (base.Temporary t) = fetch 15 (home c r t)

  abbrev pub near_register : Base → ℕ
  near_register base.Frame = 14
  near_register base.Scratch = 14
  near_register base.Program = 13
  near_register (base.Temporary t) = fetched 15 (home c r t)

  -- the same with an offset that takes the lowest index in
  abbrev pub near_component : ℕ → Option (ℕ × ℤ) → ℕ → Base → ℕ → List Piece
  near_component n None t a q =
      sum (base_register a) n ++ (Plain (word.Operate op.Add (target (home c r t)) 15 (Content q)) ∷ save (home c r t))
  near_component n (Some deferred) t a q =
      near_code a ++ (Plain (word.Operate op.Add deferred.0 (near_register a) (Content q)) ∷ [])

  -- an index is its own distance from such an offset
  abbrev pub index_by : Option ℕ → Option (ℕ × ℤ) → ℕ → Base → ℕ → ℤ → ℤ → ℕ → ℕ → ℕ → List Piece
  index_by None deferred t a i low high width error line =
      fetch 12 (home c r i) ++ (index_code (fetched 12 (home c r i)) low high error line
      ++ steps_form deferred t a (above_register (fetched 12 (home c r i)) low) width)
  index_by (Some n) deferred t a i low high width error line =
      fetch 12 (home c r i) ++ (scaled (fetched 12 (home c r i)) width
      ++ near_component n deferred t a (scaled_register (fetched 12 (home c r i)) width))

  abbrev pub index_form : Option (ℕ × ℤ) → ℕ → Base → ℕ → ℤ → ℤ → ℕ → ℕ → ℕ → List Piece
  index_form deferred t a i low high width error line =
      index_by (short_of (folded c r a low high width error) (near_of deferred a)) deferred t a i low high width error
      line

  -- ---- devices, calls, objects

  -- operand j, of n that are carried, goes to bytes 8 + 4 * j of the frame if it goes through the frame
  abbrev pub pass_one : ℕ → ℕ → Home → List Piece
  pass_one n j h =
      if is_stored n j h then fetch 12 h ++ (Plain (word.Store Word (fetched 12 h) 14 (pos (8 + 4 * j))) ∷ []) else []

  -- and those from number j on
  abbrev pub pass : ℕ → ℕ → List ℕ → List Piece
  pass n j [] = []
  pass n j (u ∷ us) = pass_one n j (home c r u) ++ pass n (suc j) us

  -- register j takes operand j
  abbrev pub carry_one : ℕ → ℕ → Home → List Piece
  carry_one n j h = if is_taken n j h then Plain (word.Load Word j 14 (pos (8 + 4 * j))) ∷ [] else into j h

  -- and each lower one its own, from the highest on
  abbrev pub carry : ℕ → ℕ → List ℕ → List Piece
  carry n zero us = []
  carry n (suc j) us = carry_one n j (home c r (slice_index us j)) ++ carry n j us

  abbrev pub offer : List ℕ → List Piece
  offer us = pass (carried (length us)) 0 us ++ carry (carried (length us)) (carried (length us)) us

  abbrev pub call_form : ℕ → ℕ → List ℕ → ℕ → List Piece
  call_form t q us line =
      offer us ++ ((if is_program c q then Enters q line else Joins q) ∷ accept (home c r t))

  -- R12 holds the address of the callee
  abbrev pub offer_by : ℕ → List ℕ → List Piece
  offer_by a us =
      pass (carried (length us)) 0 us ++ (bring 12 (home c r a) ++ carry (carried (length us)) (carried (length us)) us)

  abbrev pub call_value_form : ℕ → ℕ → List ℕ → ℕ → List Piece
  call_value_form t a us line = offer_by a us ++ (EntersAt 12 line ∷ accept (home c r t))

  abbrev pub return_form : ℕ → List Piece
  return_form a =
      into 0 (home c r a) ++ (if is_program c r then Plain (word.Load Word 15 14 (pos 0)) ∷ Plain
      (word.Load Word 14 14 (pos 4)) ∷ Plain (word.Branch on.Always false (Absolute 15)) ∷ [] else Plain
      (word.Load Word 15 14 (pos (c.link_at r))) ∷ Plain (word.Branch on.Always false (Absolute 15)) ∷ [])

  abbrev pub label_form : ℕ → Label → List Piece
  label_form t label = High (target (home c r t)) label ∷ Low (target (home c r t)) label ∷ save (home c r t)

  abbrev pub put_form : ℕ → List Piece
  put_form a =
      fetch 12 (home c r a) ++ (device 15 ∷ Plain (word.Store Word (fetched 12 (home c r a)) 15 (pos 8)) ∷ [])

  abbrev pub take_form : ℕ → List Piece
  take_form t =
      device 15 ∷ Plain (word.Load Word (target (home c r t)) 15 (pos 8)) ∷ save (home c r t)

  abbrev pub end_form : List Piece
  end_form =
      device 12 ∷ Plain (word.Move 15 (Constant (pos 0))) ∷ Plain (word.Store Word 15 12 (pos 4)) ∷ []

  -- the heap's next address, if there is room up to the stack's limit
  abbrev pub new_form : ℕ → ℕ → ℕ → List Piece
  new_form t bytes line =
      Plain (word.Load Word 15 13 (pos 268)) ∷ Plain (word.Load Word 12 13 (pos 272)) ∷ Plain
      (word.Operate op.Sub 15 15 (Content 12))
      ∷ (number 12 (pos bytes) ++ (Plain (word.Operate op.Sub 15 15 (Content 12)) ∷ Fails on.CarrySet 13 line
      ∷ Plain (word.Load Word 15 13 (pos 272)) ∷ Plain (word.Operate op.Add 12 12 (Content 15)) ∷ Plain
      (word.Store Word 12 13 (pos 272)) ∷ Plain (word.Move 12 (Content 15)) ∷ receive (home c r t)))

  -- ---- comparisons

  -- by the flags as they are, or by a difference
  abbrev pub branch_by : Option Condition → Relation → ℕ → Operand → Label → List Piece
  branch_by None relation a b label = both a b (difference a b ∷ Goes (condition relation) label ∷ [])
  branch_by (Some condition) relation a b label = Goes condition label ∷ []

  abbrev pub branch_choice : Option ℕ → Relation → ℕ → Operand → Option Condition
  branch_choice flagged relation a b = if is_flagged flagged a && is_null b then brief relation else None

  abbrev pub branch_form : Option ℕ → Relation → ℕ → Operand → Label → List Piece
  branch_form flagged relation a b label = branch_by (branch_choice flagged relation a b) relation a b label

  abbrev pub pointer_form : Option ℕ → ℕ → ℕ → ℕ → List Piece
  pointer_form flagged a error line =
      if nat_eq error 0 then idle ∷ []
      else if is_flagged flagged a then Fails on.Equal error line ∷ []
      else bring 12 (home c r a) ++ Fails on.Equal error line ∷ []

  -- the words of the instruction at a place
  abbrev pub form : ℕ → Instruction → List Piece
  form k (Literal t z) = number (target (home c r t)) z ++ save (home c r t)
  form k (Copy t a) = copy (home c r t) (home c r a)
  form k (Arithmetic operator t a b error line) = arithmetic_form operator t a b error line
  form k (Bits operator t a b) = both a b (operate (bit_operation operator) (home c r t) a b ∷ save (home c r t))
  form k (Compare relation t a b) = compare_form (flagged_at c r k) relation t a b
  form k (CheckRange a low high error line) = check_form a low high error line
  form k (CheckPointer a error line) = pointer_form (flagged_at c r k) a error line
  form k (Text t bytes) = label_form t (AtText r k)
  form k (Offset t a n extent) = address (target (home c r t)) a n ++ save (home c r t)
  form k (Index t a i low high width error line) = index_form (deferred_at c r (suc k)) t a i low high width error line
  form k (RoutineValue t q) = label_form t (AtEntry q)
  form k (Load t a n) = word_form (deferred_at c r k) t a n
  form k (Store a n b) = store_form Word a n b
  form k (LoadByte t a n) = load_form Byte t a n
  form k (StoreByte a n b) = store_form Byte a n b
  form k (Jump n) = Goes on.Always (AtPlace r (suc k + n)) ∷ []
  form k (JumpBack n) = Goes on.Always (AtPlace r (k - n)) ∷ []
  form k (Branch relation a b n) = branch_form (flagged_at c r k) relation a b (AtPlace r (suc k + n))
  form k (BranchBack relation a b n) = branch_form (flagged_at c r k) relation a b (AtPlace r (k - n))
  form k (Call t q us line) = call_form t q us line
  form k (CallValue t a us line) = call_value_form t a us line
  form k (Return a) = return_form a
  form k (Trap error line) = Fails on.Always error line ∷ []
  form k (Take t) = take_form t
  form k (Put a) = put_form a
  form k (New t type line) = new_form t (c.sizes type) line
  form k End = end_form
