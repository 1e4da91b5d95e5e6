-- The printed form of the code, as bytes: a line for each instruction. The forms are this project's own.
use Rattle.std.specs.Prelude.{ℕ, suc, List, [], ◌∷◌, ◌++◌, if◌then◌else◌, nat_eq, length, codes, decimal, flat_map}
use Rattle.std.specs.Fmt.{signed_decimal}
use Rattle.tac_code.specs.declared.code.Operator.{Operator}
use Rattle.tac_code.specs.declared.code.Operator.TheVariants.{Add, Subtract, Multiply, Divide, Modulo}
use Rattle.tac_code.specs.declared.code.BitOperator.{BitOperator}
use Rattle.tac_code.specs.declared.code.BitOperator.TheVariants.{And, Or, AndNot, ShiftLeft, Plus}
use Rattle.tac_code.specs.declared.code.Relation.{Relation}
use Rattle.tac_code.specs.declared.code.Relation.TheVariants.{Equal, NotEqual, Less, LessEqual, Greater, GreaterEqual}
use Rattle.tac_code.specs.declared.code.Operand.{Operand}
use Rattle.tac_code.specs.declared.code.Operand.TheVariants as operand
use Rattle.tac_code.specs.declared.code.Base.{Base}
use Rattle.tac_code.specs.declared.code.Base.TheVariants as base
use Rattle.tac_code.specs.declared.code.Instruction.{Instruction}
use Rattle.tac_code.specs.declared.code.Instruction.TheVariants.{Literal, Copy, Arithmetic, Bits, Compare, CheckRange}
use Rattle.tac_code.specs.declared.code.Instruction.TheVariants.{CheckPointer, Text, Offset, Index, RoutineValue, Load}
use Rattle.tac_code.specs.declared.code.Instruction.TheVariants.{Store, LoadByte, StoreByte, Jump, JumpBack, Branch}
use Rattle.tac_code.specs.declared.code.Instruction.TheVariants.{BranchBack, Call, CallValue, Return, Trap, Take, Put}
use Rattle.tac_code.specs.declared.code.Instruction.TheVariants.{New, End}
use Rattle.tac_code.specs.declared.code.TacRoutine.{TacRoutine}
use Rattle.tac_code.specs.Meaning.{Code}

abbrev pub operator_sign : Operator → List ℕ
operator_sign Add = codes "+"
operator_sign Subtract = codes "-"
operator_sign Multiply = codes "*"
operator_sign Divide = codes "div"
operator_sign Modulo = codes "mod"

abbrev pub bit_operator_sign : BitOperator → List ℕ
bit_operator_sign And = codes "and"
bit_operator_sign Or = codes "or"
bit_operator_sign AndNot = codes "and not"
bit_operator_sign ShiftLeft = codes "shift left"
bit_operator_sign Plus = codes "plus"

abbrev pub relation_sign : Relation → List ℕ
relation_sign Equal = codes "="
relation_sign NotEqual = codes "<>"
relation_sign Less = codes "<"
relation_sign LessEqual = codes "<="
relation_sign Greater = codes ">"
relation_sign GreaterEqual = codes ">="

-- the operands of a call, as ` t0 t4`
abbrev pub printed_operands : List ℕ → List ℕ
printed_operands ts = flat_map (λ t. codes " t" ++ decimal t) ts

abbrev pub printed_operand : Operand → List ℕ
printed_operand (operand.Temporary t) = codes "t" ++ decimal t
printed_operand (operand.Number z) = signed_decimal z

abbrev pub printed_base : Base → List ℕ
printed_base base.Frame = codes "frame"
printed_base base.Scratch = codes "scratch"
printed_base base.Program = codes "program"
printed_base (base.Temporary t) = codes "t" ++ decimal t

abbrev pub printed_bytes : List ℕ → List ℕ
printed_bytes bytes = flat_map (λ b. codes " " ++ decimal b) bytes

-- the error that an instruction may end with; nothing if its test can't fail
unfoldable pub or_error : ℕ → ℕ → List ℕ
or_error number line =
    if nat_eq number 0 then [] else codes ", else error " ++ decimal number ++ codes " at line " ++ decimal line

-- the temporary that is written comes last, after an arrow
abbrev pub printed : Instruction → List ℕ
printed (Literal t z) = signed_decimal z ++ codes " -> t" ++ decimal t
printed (Copy t a) = codes "t" ++ decimal a ++ codes " -> t" ++ decimal t
printed (Arithmetic operator t a b number line) = codes "t" ++ decimal a ++ codes " " ++ operator_sign operator
    ++ codes " " ++ printed_operand b ++ codes " -> t" ++ decimal t ++ or_error number line
printed (Bits operator t a b) = codes "t" ++ decimal a ++ codes " " ++ bit_operator_sign operator ++ codes " "
    ++ printed_operand b ++ codes " -> t" ++ decimal t
printed (Compare relation t a b) = codes "t" ++ decimal a ++ codes " " ++ relation_sign relation ++ codes " "
    ++ printed_operand b ++ codes " -> t" ++ decimal t
printed (CheckRange a low high number line) = codes "check t" ++ decimal a ++ codes " in " ++ signed_decimal low
    ++ codes ".." ++ signed_decimal high ++ or_error number line
printed (CheckPointer a number line) = codes "check t" ++ decimal a ++ codes " <> nil" ++ or_error number line
printed (Text t bytes) = codes "text" ++ printed_bytes bytes ++ codes " -> t" ++ decimal t
printed (Offset t a n extent) = printed_base a ++ codes " + " ++ decimal n ++ codes " -> t" ++ decimal t ++ codes ", "
    ++ decimal extent ++ codes " bytes"
printed (Index t a i low high width number line) = printed_base a ++ codes " + (t" ++ decimal i ++ codes " in "
    ++ signed_decimal low ++ codes ".." ++ signed_decimal high ++ codes ") * " ++ decimal width ++ codes " -> t"
    ++ decimal t ++ or_error number line
printed (RoutineValue t r) = codes "routine " ++ decimal r ++ codes " -> t" ++ decimal t
printed (Load t a n) = codes "word " ++ printed_base a ++ codes " + " ++ decimal n ++ codes " -> t" ++ decimal t
printed (Store a n b) = codes "t" ++ decimal b ++ codes " -> word " ++ printed_base a ++ codes " + " ++ decimal n
printed (LoadByte t a n) = codes "byte " ++ printed_base a ++ codes " + " ++ decimal n ++ codes " -> t" ++ decimal t
printed (StoreByte a n b) = codes "t" ++ decimal b ++ codes " -> byte " ++ printed_base a ++ codes " + " ++ decimal n
printed (Jump n) = codes "jump forward " ++ decimal n
printed (JumpBack n) = codes "jump back " ++ decimal n
printed (Branch relation a b n) = codes "jump forward " ++ decimal n ++ codes " if t" ++ decimal a ++ codes " "
    ++ relation_sign relation ++ codes " " ++ printed_operand b
printed (BranchBack relation a b n) = codes "jump back " ++ decimal n ++ codes " if t" ++ decimal a ++ codes " "
    ++ relation_sign relation ++ codes " " ++ printed_operand b
printed (Call t r operands line) = codes "call " ++ decimal r ++ codes " at line " ++ decimal line ++ codes " ("
    ++ printed_operands operands ++ codes " ) -> t" ++ decimal t
printed (CallValue t a operands line) = codes "call t" ++ decimal a ++ codes " at line " ++ decimal line ++ codes " ("
    ++ printed_operands operands ++ codes " ) -> t" ++ decimal t
printed (Return a) = codes "return t" ++ decimal a
printed (Trap number line) = codes "error " ++ decimal number ++ codes " at line " ++ decimal line
printed (Take t) = codes "take -> t" ++ decimal t
printed (Put a) = codes "put t" ++ decimal a
printed (New t object_type line) = codes "new " ++ decimal object_type ++ codes " at line " ++ decimal line
    ++ codes " -> t" ++ decimal t
printed End = codes "end"

-- ---- the whole

-- what is printed for each element, with its number, from a number on
abbrev pub numbered : {X : Type 0} → (ℕ → X → List ℕ) → ℕ → List X → List ℕ
numbered line n [] = []
numbered line n (x ∷ rest) = line n x ++ numbered line (suc n) rest

abbrev pub newline : List ℕ
newline = 10 ∷ []

abbrev pub instruction_line : ℕ → Instruction → List ℕ
instruction_line place i = decimal place ++ (codes ": " ++ (printed i ++ newline))

-- a line with a count, as `temporaries 8`
unfoldable pub count_line : List ℕ → ℕ → List ℕ
count_line name n = name ++ (codes " " ++ (decimal n ++ newline))

-- lines for a routine's number and counts, and one for each instruction
unfoldable pub printed_routine : ℕ → TacRoutine → List ℕ
printed_routine number r =
    count_line (codes "routine") number
    ++ (count_line (codes "parameters") r.parameters
    ++ (count_line (codes "temporaries") r.temporaries
    ++ (count_line (codes "frame") r.frame
    ++ (count_line (codes "scratch") r.scratch
    ++ (count_line (codes "line") r.line
    ++ numbered instruction_line 0 r.body)))))

abbrev pub type_line : ℕ → ℕ → List ℕ
type_line number bytes = codes "type " ++ (decimal number
    ++ (codes ": " ++ (decimal bytes ++ (codes " bytes" ++ newline))))

-- the routines by their numbers, the program's and then those of the run-time list, and the bytes of an object of each
-- type
abbrev pub printed_code : Code → List ℕ
printed_code code =
    numbered printed_routine 0 code.program
    ++ (numbered printed_routine (length code.program) code.run_time
    ++ numbered type_line 0 code.objects)
