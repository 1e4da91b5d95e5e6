-- What is read, and where instructions lead, in the parts in which the code examines them.
use Rattle.std.specs.Prelude.{◌≡◌, ℕ, suc, ◌+◌, ◌-◌, Bool, true, false, List, [], Option, Some, None}
use Rattle.tac_code.specs.declared.code.Operand.{Operand}
use Rattle.tac_code.specs.declared.code.Operand.TheVariants as operand
use Rattle.tac_code.specs.declared.code.Base.{Base}
use Rattle.tac_code.specs.declared.code.Base.TheVariants as base
use Rattle.tac_code.specs.declared.code.Instruction.{Instruction}
use Rattle.tac_code.specs.declared.code.Instruction.TheVariants.{Copy, Arithmetic, Bits, Compare, CheckRange}
use Rattle.tac_code.specs.declared.code.Instruction.TheVariants.{CheckPointer, Offset, Index, Load, Store, LoadByte}
use Rattle.tac_code.specs.declared.code.Instruction.TheVariants.{StoreByte, Jump, JumpBack, Branch, BranchBack, Call}
use Rattle.tac_code.specs.declared.code.Instruction.TheVariants.{CallValue, Return, Trap, Put, End}
use Rattle.risc_alloc.specs.declared.flow.Exit.{Exit}

abbrev pub in_operand_or_none : Operand → Option ℕ
in_operand_or_none (operand.Temporary t) = Some t
in_operand_or_none (operand.Number z) = None

abbrev pub in_base_or_none : Base → Option ℕ
in_base_or_none base.Frame = None
in_base_or_none base.Scratch = None
in_base_or_none base.Program = None
in_base_or_none (base.Temporary t) = Some t

-- the left operand, or the only one
abbrev pub read_first : Instruction → Option ℕ
read_first (Copy t a) = Some a
read_first (Arithmetic operator t a b error line) = Some a
read_first (Bits operator t a b) = Some a
read_first (Compare relation t a b) = Some a
read_first (CheckRange a low high error line) = Some a
read_first (CheckPointer a error line) = Some a
read_first (Index t a i low high width error line) = Some i
read_first (Store a n b) = Some b
read_first (StoreByte a n b) = Some b
read_first (Branch relation a b n) = Some a
read_first (BranchBack relation a b n) = Some a
read_first (CallValue t a operands line) = Some a
read_first (Return a) = Some a
read_first (Put a) = Some a
read_first _ = None

-- the right operand, or the base of an address
abbrev pub read_second : Instruction → Option ℕ
read_second (Arithmetic operator t a b error line) = in_operand_or_none b
read_second (Bits operator t a b) = in_operand_or_none b
read_second (Compare relation t a b) = in_operand_or_none b
read_second (Offset t a n extent) = in_base_or_none a
read_second (Index t a i low high width error line) = in_base_or_none a
read_second (Load t a n) = in_base_or_none a
read_second (Store a n b) = in_base_or_none a
read_second (LoadByte t a n) = in_base_or_none a
read_second (StoreByte a n b) = in_base_or_none a
read_second (Branch relation a b n) = in_operand_or_none b
read_second (BranchBack relation a b n) = in_operand_or_none b
read_second _ = None

-- what a call passes
abbrev pub read_passed : Instruction → List ℕ
read_passed (Call t r operands line) = operands
read_passed (CallValue t a operands line) = operands
read_passed _ = []

abbrev pub is_call : Instruction → Bool
is_call (Call t r operands line) = true
is_call (CallValue t a operands line) = true
is_call _ = false

-- whether an instruction leads to the next place, and the place to which it may jump
abbrev pub falls : Instruction → Bool
falls (Jump n) = false
falls (JumpBack n) = false
falls (Return a) = false
falls (Trap error line) = false
falls End = false
falls _ = true

abbrev pub target_of : Instruction → ℕ → Option ℕ
target_of (Jump n) place = Some (suc place + n)
target_of (JumpBack n) place = Some (place - n)
target_of (Branch relation a b n) place = Some (suc place + n)
target_of (BranchBack relation a b n) place = Some (place - n)
target_of _ place = None

pub record IsExit (i : Instruction) (place : ℕ) (exit : Exit) : Type 0 where
  pub falls : exit.falls ≡ falls i
  pub target : exit.target ≡ target_of i place
