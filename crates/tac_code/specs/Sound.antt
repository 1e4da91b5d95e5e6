-- The invariant of the code: each target and each operand exists, and numbers are in their ranges.
use Rattle.std.specs.Prelude.{◌≡◌, ℕ, suc, ◌+◌, ◌<◌, ◌≤◌, ◌%◌, IsTrue, ℤ, List, length, slice_get, Some}
use Rattle.std.specs.List.{All}
use Rattle.tac_code.specs.declared.code.TheConstants.{BLOCK_LIMIT, MAX_OBJECT_TYPES}
use Rattle.tac_code.specs.declared.code.Operand.{Operand}
use Rattle.tac_code.specs.declared.code.Operand.TheVariants as operand
use Rattle.tac_code.specs.declared.code.Base.{Base}
use Rattle.tac_code.specs.declared.code.Base.TheVariants as base
use Rattle.tac_code.specs.declared.code.Instruction.{Instruction}
use Rattle.tac_code.specs.declared.code.Instruction.TheVariants.{Literal, Copy, Arithmetic, Bits, Compare, CheckRange}
use Rattle.tac_code.specs.declared.code.Instruction.TheVariants.{CheckPointer, Text, Offset, Index, RoutineValue, Load}
use Rattle.tac_code.specs.declared.code.Instruction.TheVariants.{Store, LoadByte, StoreByte, Jump, JumpBack, Branch}
use Rattle.tac_code.specs.declared.code.Instruction.TheVariants.{BranchBack, Call, CallValue, Return, Trap, Take, Put}
use Rattle.tac_code.specs.declared.code.Instruction.TheVariants.{New, End}
use Rattle.tac_code.specs.declared.code.TacRoutine.{TacRoutine}
use Rattle.tac_code.specs.declared.code.TacRaw.{TacRaw}
use Rattle.tac_code.specs.declared.check.Limits.{Limits}
use Rattle.tac_code.specs.Numbers.{is_integer}
use Rattle.tac_code.specs.Meaning.{Code, size}

-- each element, at its place, keeps a fact
abbrev pub Each : {X : Type 0} → (ℕ → X → Type 0) → List X → Type 0
Each {X} P xs = (i : ℕ) (x : X) → slice_get xs i ≡ Some x → P i x

-- the code that the parts of a `TacRaw` represent
abbrev pub code_of : TacRaw → Code
code_of raw =
    record { program = raw.program.items; run_time = raw.run_time.items; objects = raw.objects.items }

-- 12 and 13 are the stops for stack and heap
abbrev pub IsErrorNumber : ℕ → Type 0
IsErrorNumber n = (1 ≤ n) × (n ≤ 13)

-- the number of a test's error, or 0 for a test that can't fail
abbrev pub IsTestNumber : ℕ → Type 0
IsTestNumber n = n ≤ 13

abbrev pub IsLine : ℕ → Type 0
IsLine n = (1 ≤ n) × (n ≤ 65535)

-- the operands of a call: at most 65, which are the static link and two words for each of 32 parameters
abbrev pub AreOperands : ℕ → List ℕ → Type 0
AreOperands temporaries list = (length list ≤ 65) × All (λ t. t < temporaries) list

-- what every number of the code is
abbrev pub IsInteger : ℤ → Type 0
IsInteger z = IsTrue (is_integer z)

abbrev pub IsOperand : ℕ → Operand → Type 0
IsOperand temporaries (operand.Temporary t) = t < temporaries
IsOperand temporaries (operand.Number z) = IsInteger z

-- A base with `bytes` bytes meant from an offset on: in the scratch block they are within it.
abbrev pub IsBase : Limits → Base → (offset bytes : ℕ) → Type 0
IsBase l base.Frame offset bytes = Unit {0}
IsBase l base.Scratch offset bytes = offset + bytes ≤ l.scratch
IsBase l base.Program offset bytes = Unit {0}
IsBase l (base.Temporary t) offset bytes = t < l.temporaries

-- what is required of an instruction at a place
abbrev pub IsSoundAt : Limits → ℕ → Instruction → Type 0
IsSoundAt l place (Literal t z) = (t < l.temporaries) × IsInteger z
IsSoundAt l place (Copy t a) = (t < l.temporaries) × (a < l.temporaries)
IsSoundAt l place (Arithmetic operator t a b error line) =
    (t < l.temporaries) × (a < l.temporaries) × IsOperand l.temporaries b × IsTestNumber error × IsLine line
IsSoundAt l place (Bits operator t a b) = (t < l.temporaries) × (a < l.temporaries) × IsOperand l.temporaries b
IsSoundAt l place (Compare relation t a b) = (t < l.temporaries) × (a < l.temporaries) × IsOperand l.temporaries b
IsSoundAt l place (CheckRange a low high error line) =
    (a < l.temporaries) × IsInteger low × IsInteger high × IsTestNumber error × IsLine line
IsSoundAt l place (CheckPointer a error line) = (a < l.temporaries) × IsTestNumber error × IsLine line
IsSoundAt l place (Text t bytes) = (t < l.temporaries) × (length bytes % 4 ≡ 0)
IsSoundAt l place (Offset t a n extent) = (t < l.temporaries) × IsBase l a n extent
IsSoundAt l place (Index t a i low high width error line) =
    (t < l.temporaries) × IsBase l a 0 0 × (i < l.temporaries) × IsInteger low × IsInteger high × IsTestNumber error
    × IsLine line
IsSoundAt l place (RoutineValue t r) = (t < l.temporaries) × (r < l.routines)
IsSoundAt l place (Load t a offset) = (t < l.temporaries) × IsBase l a offset 4
IsSoundAt l place (Store a offset b) = IsBase l a offset 4 × (b < l.temporaries)
IsSoundAt l place (LoadByte t a offset) = (t < l.temporaries) × IsBase l a offset 1
IsSoundAt l place (StoreByte a offset b) = IsBase l a offset 1 × (b < l.temporaries)
IsSoundAt l place (Jump n) = suc place + n < l.places
IsSoundAt l place (JumpBack n) = n ≤ place
IsSoundAt l place (Branch relation a b n) =
    (a < l.temporaries) × IsOperand l.temporaries b × (suc place + n < l.places)
IsSoundAt l place (BranchBack relation a b n) = (a < l.temporaries) × IsOperand l.temporaries b × (n ≤ place)
IsSoundAt l place (Call t r list line) =
    (t < l.temporaries) × (r < l.routines) × AreOperands l.temporaries list × IsLine line
IsSoundAt l place (CallValue t a list line) =
    (t < l.temporaries) × (a < l.temporaries) × AreOperands l.temporaries list × IsLine line
IsSoundAt l place (Return a) = a < l.temporaries
IsSoundAt l place (Trap error line) = IsErrorNumber error × IsLine line
IsSoundAt l place (Take t) = t < l.temporaries
IsSoundAt l place (Put a) = a < l.temporaries
IsSoundAt l place (New t object_type line) = (t < l.temporaries) × (object_type < l.object_types) × IsLine line
IsSoundAt l place End = Unit {0}

abbrev pub IsSoundBody : Limits → List Instruction → Type 0
IsSoundBody l body = Each (IsSoundAt l) body

-- what exists, for a routine of the code
abbrev pub limits_of : Code → TacRoutine → Limits
limits_of code routine =
    record {
      temporaries = routine.temporaries;
      places = length routine.body;
      routines = length code.program + length code.run_time;
      object_types = length code.objects;
      scratch = routine.scratch;
    }

pub record IsSoundRoutine (l : Limits) (routine : TacRoutine) : Type 0 where
  pub parameters : routine.parameters ≤ routine.temporaries
  pub frame : routine.frame % 4 ≡ 0
  pub scratch : routine.scratch % 4 ≡ 0
  pub bytes : size routine < BLOCK_LIMIT
  pub begins : IsLine routine.line
  pub body : IsSoundBody l routine.body

abbrev pub CallsNone : Instruction → Type 0
CallsNone (Call t r list line) = ⊥
CallsNone (CallValue t a list line) = ⊥
CallsNone _ = Unit {0}

-- A run-time routine makes no calls and is small: its frame is within its caller's.
pub record IsLeaf (routine : TacRoutine) : Type 0 where
  pub parameters : routine.parameters ≤ 8
  pub bytes : size routine ≤ 160
  pub body : Each (λ _ i. CallsNone i) routine.body

-- the bytes of an object of a type
pub record IsObjectSize (bytes : ℕ) : Type 0 where
  pub aligned : bytes % 4 ≡ 0
  pub below : bytes < BLOCK_LIMIT

abbrev pub AreSoundRoutines : Code → List TacRoutine → Type 0
AreSoundRoutines code list = Each (λ _ routine. IsSoundRoutine (limits_of code routine) routine) list

abbrev pub AreLeaves : List TacRoutine → Type 0
AreLeaves list = Each (λ _ routine. IsLeaf routine) list

abbrev pub AreObjectSizes : List ℕ → Type 0
AreObjectSizes list = Each (λ _ bytes. IsObjectSize bytes) list

-- There is a program block, in which a run begins.
pub record IsSound (code : Code) : Type 0 where
  pub begins : 0 < length code.program
  pub program : AreSoundRoutines code code.program
  pub run_time : AreSoundRoutines code code.run_time
  pub leaves : AreLeaves code.run_time
  pub objects : AreObjectSizes code.objects
  pub types : length code.objects ≤ MAX_OBJECT_TYPES
