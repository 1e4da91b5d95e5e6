-- The printed form of an instruction, as bytes: its name, then its operands with a comma and a space between them.
-- The forms are this project's own, after Wirth's names of the operations and conditions (the processor's description).
use Rattle.std.specs.Prelude.{ℕ, Bool, true, false, List, ◌++◌, codes, decimal}
use Rattle.std.specs.Fmt.{signed_decimal}
use Rattle.risc_word.specs.declared.instr.Operation.{Operation}
use Rattle.risc_word.specs.declared.instr.Operation.TheVariants.{Lsl, Asr, Ror, And, Ann, Ior, Xor, Add, Sub, Mul, Div}
use Rattle.risc_word.specs.declared.instr.Operation.TheVariants.{Adc, Sbc}
use Rattle.risc_word.specs.declared.instr.Operand.{Operand}
use Rattle.risc_word.specs.declared.instr.Operand.TheVariants.{Content, Constant}
use Rattle.risc_word.specs.declared.instr.Width.{Width}
use Rattle.risc_word.specs.declared.instr.Width.TheVariants.{Word, Byte}
use Rattle.risc_word.specs.declared.instr.Condition.{Condition}
use Rattle.risc_word.specs.declared.instr.Condition.TheVariants.{Minus, Equal, CarrySet, OverflowSet, Less, LessEqual}
use Rattle.risc_word.specs.declared.instr.Condition.TheVariants.{Always, Plus, NotEqual, CarryClear, OverflowClear}
use Rattle.risc_word.specs.declared.instr.Condition.TheVariants.{GreaterEqual, Greater, Never}
use Rattle.risc_word.specs.declared.instr.Target.{Target}
use Rattle.risc_word.specs.declared.instr.Target.TheVariants.{Relative, Absolute}
use Rattle.risc_word.specs.declared.instr.Instr.{Instr}
use Rattle.risc_word.specs.declared.instr.Instr.TheVariants.{Move, MoveTop, MoveHigh, Operate, Load, Store, Branch}

-- a register, as `R14`
abbrev pub printed_register : ℕ → List ℕ
printed_register a = codes "R" ++ decimal a

-- a register, or a signed decimal number
abbrev pub printed_operand : Operand → List ℕ
printed_operand (Content c) = printed_register c
printed_operand (Constant n) = signed_decimal n

abbrev pub printed_target : Target → List ℕ
printed_target (Relative n) = signed_decimal n
printed_target (Absolute c) = printed_register c

abbrev pub operation_name : Operation → List ℕ
operation_name Lsl = codes "LSL"
operation_name Asr = codes "ASR"
operation_name Ror = codes "ROR"
operation_name And = codes "AND"
operation_name Ann = codes "ANN"
operation_name Ior = codes "IOR"
operation_name Xor = codes "XOR"
operation_name Add = codes "ADD"
operation_name Sub = codes "SUB"
operation_name Mul = codes "MUL"
operation_name Div = codes "DIV"
operation_name Adc = codes "ADC"
operation_name Sbc = codes "SBC"

abbrev pub condition_name : Condition → List ℕ
condition_name Minus = codes "MI"
condition_name Equal = codes "EQ"
condition_name CarrySet = codes "CS"
condition_name OverflowSet = codes "VS"
condition_name Less = codes "LT"
condition_name LessEqual = codes "LE"
condition_name Always = codes "T"
condition_name Plus = codes "PL"
condition_name NotEqual = codes "NE"
condition_name CarryClear = codes "CC"
condition_name OverflowClear = codes "VC"
condition_name GreaterEqual = codes "GE"
condition_name Greater = codes "GT"
condition_name Never = codes "F"

abbrev pub load_name : Width → List ℕ
load_name Word = codes "LD"
load_name Byte = codes "LDB"

abbrev pub store_name : Width → List ℕ
store_name Word = codes "ST"
store_name Byte = codes "STB"

abbrev pub branch_name : Bool → List ℕ
branch_name false = codes "B"
branch_name true = codes "BL"

-- a name with two operands, and with three
abbrev pub with_two : List ℕ → List ℕ → List ℕ → List ℕ
with_two name x y = name ++ codes " " ++ x ++ codes ", " ++ y

abbrev pub with_three : List ℕ → List ℕ → List ℕ → List ℕ → List ℕ
with_three name x y z = name ++ codes " " ++ x ++ codes ", " ++ y ++ codes ", " ++ z

abbrev pub printed : Instr → List ℕ
printed (Move a n) = with_two (codes "MOV") (printed_register a) (printed_operand n)
printed (MoveTop a n) = with_two (codes "MOVH") (printed_register a) (decimal n)
printed (MoveHigh a) = with_two (codes "MOV") (printed_register a) (codes "H")
printed (Operate op a b n) = with_three (operation_name op) (printed_register a) (printed_register b)
    (printed_operand n)
printed (Load w a b off) = with_three (load_name w) (printed_register a) (printed_register b) (signed_decimal off)
printed (Store w a b off) = with_three (store_name w) (printed_register a) (printed_register b) (signed_decimal off)
printed (Branch cond link target) = with_two (branch_name link) (condition_name cond) (printed_target target)
