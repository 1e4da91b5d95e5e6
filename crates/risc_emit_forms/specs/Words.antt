-- Words that depend on no home: constants, words of a frame, conditions, and which operands of a call come in
-- registers.
use Rattle.std.specs.Prelude.{ℕ, ◌+◌, ◌/◌, ◌%◌, Bool, true, false, ◌&&◌, ◌||◌, not, nat_eq, nat_lt, if◌then◌else◌, List}
use Rattle.std.specs.Prelude.{[], ◌∷◌, ◌++◌, Option, Some, None, ℤ, pos, negsuc}
use Rattle.risc_word.specs.declared.instr.Operation.{Operation}
use Rattle.risc_word.specs.declared.instr.Operation.TheVariants as op
use Rattle.risc_word.specs.declared.instr.Operand.TheVariants.{Content, Constant}
use Rattle.risc_word.specs.declared.instr.Width.TheVariants.{Word}
use Rattle.risc_word.specs.declared.instr.Condition.{Condition}
use Rattle.risc_word.specs.declared.instr.Condition.TheVariants as on
use Rattle.risc_word.specs.declared.instr.Target.TheVariants.{Relative}
use Rattle.risc_word.specs.declared.instr.Instr.TheVariants as word
use Rattle.tac_code.specs.declared.code.BitOperator.{BitOperator}
use Rattle.tac_code.specs.declared.code.BitOperator.TheVariants.{And, Or, AndNot, ShiftLeft, Plus}
use Rattle.tac_code.specs.declared.code.Relation.{Relation}
use Rattle.tac_code.specs.declared.code.Relation.TheVariants.{Equal, NotEqual, Less, LessEqual, Greater, GreaterEqual}
use Rattle.tac_code.specs.declared.code.Operand.{Operand}
use Rattle.tac_code.specs.declared.code.Operand.TheVariants as operand
use Rattle.tac_code.specs.Numbers.{is_zero, word_of}
use Rattle.risc_alloc.specs.declared.homes.Home.{Home}
use Rattle.risc_alloc.specs.declared.homes.Home.TheVariants.{Slot, Reg}
use Rattle.risc_emit_forms.specs.Pieces.{Piece, Plain}

-- ---- constants

-- an offset of 20 bits, an immediate of 17
abbrev pub is_near : ℕ → Bool
is_near n = nat_lt n 524288

abbrev pub is_small : ℤ → Bool
is_small (pos n) = nat_lt n 65536
is_small (negsuc n) = nat_lt n 65536

-- register d takes the lowest 32 bits of an offset, in two halves
abbrev pub constant : ℕ → ℕ → List Piece
constant d w =
    Plain (word.MoveTop d (w / 65536 % 65536)) ∷ Plain (word.Operate op.Add d d (Constant (pos (w % 65536)))) ∷ []

-- register d takes a word of 32 bits, in two halves
abbrev pub exact : ℕ → ℕ → List Piece
exact d w =
    Plain (word.MoveTop d (w / 65536)) ∷ Plain (word.Operate op.Add d d (Constant (pos (w % 65536)))) ∷ []

-- register d takes a number
abbrev pub number : ℕ → ℤ → List Piece
number d z = if is_small z then Plain (word.Move d (Constant z)) ∷ [] else constant d (word_of z)

-- ---- words of a frame

-- register d takes the word n bytes after the address in register b, another one
abbrev pub load : ℕ → ℕ → ℕ → List Piece
load d b n =
    if is_near n then Plain (word.Load Word d b (pos n)) ∷ []
    else constant d n ++ (Plain (word.Operate op.Add d d (Content b)) ∷ Plain (word.Load Word d d (pos 0)) ∷ [])

-- the word there receives the content of register a
abbrev pub store : ℕ → ℕ → ℕ → List Piece
store a b n =
    if is_near n then Plain (word.Store Word a b (pos n)) ∷ []
    else constant 15 n ++ (Plain (word.Operate op.Add 15 15 (Content b)) ∷ Plain (word.Store Word a 15 (pos 0)) ∷ [])

-- ---- what depends on no place

abbrev pub bit_operation : BitOperator → Operation
bit_operation And = op.And
bit_operation Or = op.Ior
bit_operation AndNot = op.Ann
bit_operation ShiftLeft = op.Lsl
bit_operation Plus = op.Add

-- the condition under which a relation holds, after the left operand minus the right one
abbrev pub condition : Relation → Condition
condition Equal = on.Equal
condition NotEqual = on.NotEqual
condition Less = on.Less
condition LessEqual = on.LessEqual
condition Greater = on.Greater
condition GreaterEqual = on.GreaterEqual

abbrev pub skip : Condition → ℕ → Piece
skip condition n = Plain (word.Branch condition false (Relative (pos n)))

-- an immediate divisor above 0
abbrev pub is_divisor : Operand → Bool
is_divisor (operand.Temporary t) = false
is_divisor (operand.Number (pos n)) = nat_lt 0 n && nat_lt n 65536
is_divisor (operand.Number (negsuc n)) = false

-- the floored quotient in register d rounded toward zero, in four words
abbrev pub rounded : ℕ → List Piece
rounded d =
    skip on.Plus 3 ∷ Plain (word.MoveHigh 15) ∷ skip on.Equal 1 ∷ Plain (word.Operate op.Add d d (Constant (pos 1)))
    ∷ []

-- R15 becomes 0 if a product has 32 bits: H is 0, or all ones above a negative low word, whose sign N shows
abbrev pub beyond : List Piece
beyond =
    skip on.Plus 3 ∷ Plain (word.MoveHigh 15) ∷ Plain (word.Operate op.Add 15 15 (Constant (pos 1))) ∷ skip on.Always 1
    ∷ Plain (word.MoveHigh 15) ∷ []

-- whether a right operand is the number 0
abbrev pub is_null : Operand → Bool
is_null (operand.Temporary t) = false
is_null (operand.Number z) = is_zero z

-- the condition for a comparison with 0 by N and Z alone
abbrev pub brief : Relation → Option Condition
brief Equal = Some on.Equal
brief NotEqual = Some on.NotEqual
brief Less = Some on.Minus
brief LessEqual = None
brief Greater = None
brief GreaterEqual = Some on.Plus

-- whether a home is a register
abbrev pub is_register : Home → Bool
is_register (Reg q) = true
is_register (Slot k) = false

-- ---- operands

-- how many of the operands of a call come in registers, operand j in register j; the others are in the caller's frame
abbrev pub carried : ℕ → ℕ
carried count = if nat_lt count 8 then count else 8

-- The last of n operands goes to its register first. A home may therefore be overwritten before the turn of operand j.
abbrev pub is_taken : ℕ → ℕ → Home → Bool
is_taken n j (Reg q) = nat_lt j q && nat_lt q n
is_taken n j (Slot k) = false

-- it goes through the frame, as what comes in no register does
abbrev pub is_stored : ℕ → ℕ → Home → Bool
is_stored n j h = not (nat_lt j n) || is_taken n j h

-- parameter j comes in its home
abbrev pub stands : ℕ → Home → Bool
stands j (Reg q) = nat_eq q j && nat_lt j 8
stands j (Slot k) = false

-- its home receives parameter j directly, if none of the n that are carried arrives there: a slot, or a register after
-- theirs
abbrev pub is_clear : ℕ → ℕ → Home → Bool
is_clear n j (Reg q) = nat_lt j 8 && not (nat_lt q n)
is_clear n j (Slot k) = nat_lt j 8

-- it goes through no memory of the caller
abbrev pub is_direct : ℕ → ℕ → Home → Bool
is_direct n j h = stands j h || is_clear n j h

-- A test, and what follows it. A test with number 0 can't fail, and has no words.
abbrev pub tested : ℕ → List Piece → List Piece → List Piece
tested error test rest = if nat_eq error 0 then rest else test ++ rest

-- a word that does nothing, for an instruction or a skip that needs one
abbrev pub idle : Piece
idle = Plain (word.Move 15 (Constant (pos 0)))

-- the device page is FFFFC0H
abbrev pub device : ℕ → Piece
device d = Plain (word.Move d (Constant (negsuc 63)))
