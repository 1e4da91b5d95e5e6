-- The three-address code of a program, with the counts that its routines need.
use Rattle.std.specs.Prelude.{ℕ, suc, ◌+◌, ◌*◌, max, List, [], ◌∷◌, map}
use Rattle.ps_tree.specs.Types.{DataType}
use Rattle.ps_tree.specs.Tree.{Routine, Program}
use Rattle.tac_code.specs.declared.code.Operand.{Operand}
use Rattle.tac_code.specs.declared.code.Operand.TheVariants as operand
use Rattle.tac_code.specs.declared.code.Base.{Base}
use Rattle.tac_code.specs.declared.code.Base.TheVariants as base
use Rattle.tac_code.specs.declared.code.Instruction.{Instruction}
use Rattle.tac_code.specs.declared.code.Instruction.TheVariants.{Literal, Copy, Arithmetic, Bits, Compare, CheckRange}
use Rattle.tac_code.specs.declared.code.Instruction.TheVariants.{CheckPointer, Text, Offset, Index, RoutineValue, Load}
use Rattle.tac_code.specs.declared.code.Instruction.TheVariants.{Store, LoadByte, StoreByte, Jump, JumpBack, Branch}
use Rattle.tac_code.specs.declared.code.Instruction.TheVariants.{BranchBack, Call, CallValue, Return, Trap, Take, Put}
use Rattle.tac_code.specs.declared.code.Instruction.TheVariants.{New, End}
use Rattle.tac_code.specs.declared.code.TacRoutine.{TacRoutine}
use Rattle.tac_code.specs.Meaning.{Code}
use Rattle.ps_lower_layout.specs.Shapes.{shape_of, byte_count}
use Rattle.ps_lower_layout.specs.Frames.{layout_of}
use Rattle.ps_lower_code.specs.Routines.{parameter_total, routine_code}

-- ---- how many temporaries an instruction needs: one more than the highest it names

abbrev pub in_operand : Operand → ℕ
in_operand (operand.Temporary t) = suc t
in_operand (operand.Number z) = 0

abbrev pub in_base : Base → ℕ
in_base (base.Temporary t) = suc t
in_base base.Frame = 0
in_base base.Scratch = 0
in_base base.Program = 0

abbrev pub in_list : List ℕ → ℕ
in_list [] = 0
in_list (t ∷ ts) = max (suc t) (in_list ts)

abbrev pub named_in : Instruction → ℕ
named_in (Literal t z) = suc t
named_in (Copy t a) = max (suc t) (suc a)
named_in (Arithmetic operator t a b error line) = max (suc t) (max (suc a) (in_operand b))
named_in (Bits operator t a b) = max (suc t) (max (suc a) (in_operand b))
named_in (Compare relation t a b) = max (suc t) (max (suc a) (in_operand b))
named_in (CheckRange a low high error line) = suc a
named_in (CheckPointer a error line) = suc a
named_in (Text t bytes) = suc t
named_in (Offset t a n extent) = max (suc t) (in_base a)
named_in (Index t a i low high width error line) = max (suc t) (max (in_base a) (suc i))
named_in (RoutineValue t r) = suc t
named_in (Load t a n) = max (suc t) (in_base a)
named_in (Store a n b) = max (in_base a) (suc b)
named_in (LoadByte t a n) = max (suc t) (in_base a)
named_in (StoreByte a n b) = max (in_base a) (suc b)
named_in (Jump n) = 0
named_in (JumpBack n) = 0
named_in (Branch relation a b n) = max (suc a) (in_operand b)
named_in (BranchBack relation a b n) = max (suc a) (in_operand b)
named_in (Call t r list line) = max (suc t) (in_list list)
named_in (CallValue t a list line) = max (suc t) (max (suc a) (in_list list))
named_in (Return a) = suc a
named_in (Trap error line) = 0
named_in (Take t) = suc t
named_in (Put a) = suc a
named_in (New t type line) = suc t
named_in End = 0

abbrev pub temporaries_in : List Instruction → ℕ
temporaries_in [] = 0
temporaries_in (i ∷ rest) = max (named_in i) (temporaries_in rest)

-- ---- how many bytes of the scratch block are used

abbrev pub scratch_at : Base → (offset extent : ℕ) → ℕ
scratch_at base.Scratch offset extent = offset + extent
scratch_at _ offset extent = 0

abbrev pub meant_by : Instruction → ℕ
meant_by (Offset t a n extent) = scratch_at a n extent
meant_by (Load t a n) = scratch_at a n 4
meant_by (Store a n b) = scratch_at a n 4
meant_by (LoadByte t a n) = scratch_at a n 1
meant_by (StoreByte a n b) = scratch_at a n 1
meant_by _ = 0

abbrev pub scratch_in : List Instruction → ℕ
scratch_in [] = 0
scratch_in (i ∷ rest) = max (meant_by i) (scratch_in rest)

abbrev pub tac_of : Program → Routine → TacRoutine
tac_of program r = record {
  parameters = parameter_total r;
  temporaries = max (parameter_total r) (temporaries_in (routine_code program r));
  frame = 4 * (layout_of r).size;
  scratch = scratch_in (routine_code program r);
  line = r.line;
  body = routine_code program r;
}

abbrev pub object_bytes : DataType → ℕ
object_bytes type = byte_count (shape_of type)

-- with the run-time routines, which every program has
abbrev pub code_of : List TacRoutine → Program → Code
code_of run_time program = record {
  program = map (tac_of program) program.routines;
  run_time = run_time;
  objects = map object_bytes program.domains;
}
