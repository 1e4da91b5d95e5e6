-- What an instruction reads and writes, and where it leads.
use Rattle.std.specs.Prelude.{ℕ, zero, suc, ◌+◌, ◌-◌, Bool, false, ◌||◌, nat_eq, List, [], ◌∷◌, Option, Some, None}
use Rattle.tac_code.specs.declared.code.Operand.{Operand}
use Rattle.tac_code.specs.declared.code.Operand.TheVariants as operand
use Rattle.tac_code.specs.declared.code.Base.{Base}
use Rattle.tac_code.specs.declared.code.Base.TheVariants as base
use Rattle.tac_code.specs.declared.code.Instruction.{Instruction}
use Rattle.tac_code.specs.declared.code.Instruction.TheVariants.{Literal, Copy, Arithmetic, Bits, Compare, CheckRange}
use Rattle.tac_code.specs.declared.code.Instruction.TheVariants.{CheckPointer, Text, Offset, Index, RoutineValue, Load}
use Rattle.tac_code.specs.declared.code.Instruction.TheVariants.{Store, LoadByte, StoreByte, Jump, JumpBack, Branch}
use Rattle.tac_code.specs.declared.code.Instruction.TheVariants.{BranchBack, Call, CallValue, Return, Trap, Take, Put}
use Rattle.tac_code.specs.declared.code.Instruction.TheVariants.{New, End}

-- the temporary of a right operand, or of a base, if there is one
abbrev pub in_operand : Operand → List ℕ
in_operand (operand.Temporary t) = t ∷ []
in_operand (operand.Number z) = []

abbrev pub in_base : Base → List ℕ
in_base base.Frame = []
in_base base.Scratch = []
in_base base.Program = []
in_base (base.Temporary t) = t ∷ []

-- the temporaries that an instruction reads
abbrev pub read_by : Instruction → List ℕ
read_by (Literal t z) = []
read_by (Copy t a) = a ∷ []
read_by (Arithmetic operator t a b error line) = a ∷ in_operand b
read_by (Bits operator t a b) = a ∷ in_operand b
read_by (Compare relation t a b) = a ∷ in_operand b
read_by (CheckRange a low high error line) = a ∷ []
read_by (CheckPointer a error line) = a ∷ []
read_by (Text t bytes) = []
read_by (Offset t a n extent) = in_base a
read_by (Index t a i low high width error line) = i ∷ in_base a
read_by (RoutineValue t r) = []
read_by (Load t a n) = in_base a
read_by (Store a n b) = b ∷ in_base a
read_by (LoadByte t a n) = in_base a
read_by (StoreByte a n b) = b ∷ in_base a
read_by (Jump n) = []
read_by (JumpBack n) = []
read_by (Branch relation a b n) = a ∷ in_operand b
read_by (BranchBack relation a b n) = a ∷ in_operand b
read_by (Call t r operands line) = operands
read_by (CallValue t a operands line) = a ∷ operands
read_by (Return a) = a ∷ []
read_by (Trap error line) = []
read_by (Take t) = []
read_by (Put a) = a ∷ []
read_by (New t object_type line) = []
read_by End = []

-- the temporary that an instruction writes; a call's is written when it returns
abbrev pub written_by : Instruction → Option ℕ
written_by (Literal t z) = Some t
written_by (Copy t a) = Some t
written_by (Arithmetic operator t a b error line) = Some t
written_by (Bits operator t a b) = Some t
written_by (Compare relation t a b) = Some t
written_by (Text t bytes) = Some t
written_by (Offset t a n extent) = Some t
written_by (Index t a i low high width error line) = Some t
written_by (RoutineValue t r) = Some t
written_by (Load t a n) = Some t
written_by (LoadByte t a n) = Some t
written_by (Call t r operands line) = Some t
written_by (CallValue t a operands line) = Some t
written_by (Take t) = Some t
written_by (New t object_type line) = Some t
written_by _ = None

-- the temporary that takes the result of a call
abbrev pub result_of : Instruction → Option ℕ
result_of (Call t r operands line) = Some t
result_of (CallValue t a operands line) = Some t
result_of _ = None

-- The places that an instruction at a place leads to, if no error ends the run. A call leads to the place to which it
-- comes back.
abbrev pub next_of : Instruction → ℕ → List ℕ
next_of (Jump n) place = (suc place + n) ∷ []
next_of (JumpBack n) place = (place - n) ∷ []
next_of (Branch relation a b n) place = suc place ∷ (suc place + n) ∷ []
next_of (BranchBack relation a b n) place = suc place ∷ (place - n) ∷ []
next_of (Return a) place = []
next_of (Trap error line) place = []
next_of End place = []
next_of _ place = suc place ∷ []

-- ---- the same as tests, of what a place of a routine holds

abbrev pub is_among : ℕ → List ℕ → Bool
is_among u [] = false
is_among u (t ∷ ts) = nat_eq u t || is_among u ts

abbrev pub is_it : ℕ → Option ℕ → Bool
is_it u None = false
is_it u (Some t) = nat_eq u t

-- whether a temporary is read; is written
abbrev pub reads : Option Instruction → ℕ → Bool
reads None u = false
reads (Some i) u = is_among u (read_by i)

abbrev pub writes : Option Instruction → ℕ → Bool
writes None u = false
writes (Some i) u = is_it u (written_by i)

-- whether the instruction at a place leads to another place
abbrev pub leads : Option Instruction → ℕ → ℕ → Bool
leads None place next = false
leads (Some i) place next = is_among next (next_of i place)

-- whether it is a call whose result a temporary takes
abbrev pub gives_to : Option Instruction → ℕ → Bool
gives_to None t = false
gives_to (Some i) t = is_it t (result_of i)

-- Whether a call comes back to a place, with a result for a temporary. A routine is given by the instructions at its
-- places.
abbrev pub comes_back : (ℕ → Option Instruction) → ℕ → ℕ → Bool
comes_back at zero t = false
comes_back at (suc place) t = gives_to (at place) t
