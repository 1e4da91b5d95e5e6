-- A view of the processor's state, with functions for the registers and for the words of memory, and what instructions
-- make of it. On a view the instructions of a straight line are evaluated one after the other.
use Rattle.std.specs.Prelude.{◌≡◌, ℕ, suc, ◌+◌, ◌-◌, ◌*◌, ◌/◌, ◌%◌, ◌^◌, ◌<◌, ◌≤◌, Bool, true, false, not, ◌||◌, nat_eq}
use Rattle.std.specs.Prelude.{nat_lt, nat_le, if◌then◌else◌, List, [], ◌∷◌, length, slice_index, slice_get, Some, ℤ}
use Rattle.std.specs.Prelude.{pos, negsuc, ◌+ℤ◌, ◌-ℤ◌, int_lt, bit_and, bit_or, bit_xor}
use Rattle.std.specs.Int.{w32, int_shr, rotate_right, int_div_euclid, int_rem_euclid, from_bool}
use Rattle.risc_word.specs.declared.instr.Operation.{Operation}
use Rattle.risc_word.specs.declared.instr.Operation.TheVariants.{Lsl, Asr, Ror, And, Ann, Ior, Xor, Add, Sub, Mul, Div}
use Rattle.risc_word.specs.declared.instr.Operation.TheVariants.{Adc, Sbc}
use Rattle.risc_word.specs.declared.instr.Operand.{Operand}
use Rattle.risc_word.specs.declared.instr.Operand.TheVariants.{Content, Constant}
use Rattle.risc_word.specs.declared.instr.Width.TheVariants.{Word, Byte}
use Rattle.risc_word.specs.declared.instr.Condition.{Condition}
use Rattle.risc_word.specs.declared.instr.Condition.TheVariants.{Minus, Equal, CarrySet, OverflowSet, Less, LessEqual}
use Rattle.risc_word.specs.declared.instr.Condition.TheVariants.{Always, Plus, NotEqual, CarryClear, OverflowClear}
use Rattle.risc_word.specs.declared.instr.Condition.TheVariants.{GreaterEqual, Greater, Never}
use Rattle.risc_word.specs.declared.instr.Target.{Target}
use Rattle.risc_word.specs.declared.instr.Target.TheVariants.{Relative, Absolute}
use Rattle.risc_word.specs.declared.instr.Instr.{Instr}
use Rattle.risc_word.specs.declared.instr.Instr.TheVariants.{Move, MoveTop, MoveHigh, Operate, Load, Store, Branch}
use Rattle.risc_word.specs.Words.{word_of, IsInstr}
use Rattle.risc_machine.specs.Step.{State, word_at, signed, word_of_int, overflows, product, differ}
use Rattle.risc_machine.specs.declared.limits.TheConstants.{PLACES, ADDRESSES, MAX_MEMORY, SIGN_BIT}

-- registers, H, the flags, the place of the next instruction in words, and the word at each address of four bytes
pub record View : Type 0 where
  pub registers : ℕ → ℕ
  pub high : ℕ
  pub negative : Bool
  pub equal : Bool
  pub carry : Bool
  pub overflow : Bool
  pub place : ℕ
  pub words : ℕ → ℕ

-- ---- the code: a list of words, instructions and constants, from address 0 on

-- the code is within the memory, and the memory ends below the device page
pub record Fits (code : List ℕ) (size : ℕ) : Type 0 where
  pub room : 4 * length code ≤ size
  pub top : size ≤ MAX_MEMORY

-- this instruction is at a place of the code
pub record IsAt (code : List ℕ) (place : ℕ) (i : Instr) : Type 0 where
  pub word : slice_get code place ≡ Some (word_of i)
  pub ranges : IsInstr i

-- these instructions are in the code one after the other, from a place on
abbrev pub HasAt : List ℕ → ℕ → List Instr → Type 0
HasAt code place [] = Unit {0}
HasAt code place (i ∷ is) = IsAt code place i × HasAt code (place + 1) is

-- an address of a word of memory, and of one past the code
pub record IsReadable (size a : ℕ) : Type 0 where
  pub aligned : a % 4 ≡ 0
  pub high : a + 4 ≤ size

pub record IsWritable (code : List ℕ) (size a : ℕ) : Type 0 where
  pub aligned : a % 4 ≡ 0
  pub low : 4 * length code ≤ a
  pub high : a + 4 ≤ size

-- ---- the state that a view shows: the code is at its place, and the rest of memory is any bytes
pub record Shows (code : List ℕ) (size : ℕ) (m : State) (v : View) : Type 0 where
  pub registers : (k : ℕ) → k < 16 → slice_index m.registers k ≡ v.registers k
  pub count : length m.registers ≡ 16
  pub narrow : (k : ℕ) → k < 16 → v.registers k < 4294967296
  pub high : m.high ≡ v.high
  pub high_narrow : v.high < 4294967296
  pub negative : m.negative ≡ v.negative
  pub equal : m.equal ≡ v.equal
  pub carry : m.carry ≡ v.carry
  pub overflow : m.overflow ≡ v.overflow
  pub place : m.pc ≡ v.place
  pub extent : length m.memory ≡ size
  pub bytes : (j : ℕ) → slice_index m.memory j < 256
  pub words : (a : ℕ) → a % 4 ≡ 0 → a + 4 ≤ size → word_at m.memory a ≡ v.words a
  pub stands : (k w : ℕ) → slice_get code k ≡ Some w → word_at m.memory (4 * k) ≡ w

-- what is seen of a state
abbrev pub view_of : State → View
view_of m =
    record {
      registers = λ k. slice_index m.registers k;
      high = m.high;
      negative = m.negative;
      equal = m.equal;
      carry = m.carry;
      overflow = m.overflow;
      place = m.pc;
      words = λ a. word_at m.memory a;
    }

-- ---- what an instruction makes of a view

-- a function with one value changed: at numerals a look-up computes
abbrev pub update : ℕ → ℕ → (ℕ → ℕ) → ℕ → ℕ
update k x f j = if nat_eq j k then x else f j

-- a register takes a word, which determines N and Z, and the place moves on
abbrev pub result_view : ℕ → ℕ → View → View
result_view a w v =
    record v {
      registers = update a w v.registers;
      negative = nat_le SIGN_BIT w;
      equal = nat_eq w 0;
      place = v.place
          + 1;
    }

abbrev pub carries_view : Bool → Bool → View → View
carries_view c o v = record v { carry = c; overflow = o }

abbrev pub high_view : ℕ → View → View
high_view h v = record v { high = h }

abbrev pub store_view : ℕ → ℕ → View → View
store_view at w v = record v { words = update at w v.words; place = v.place + 1 }

abbrev pub at_view : ℕ → View → View
at_view place v = record v { place = place }

abbrev pub operand_view : View → Operand → ℕ
operand_view v (Content c) = v.registers c
operand_view v (Constant n) = word_of_int n

-- an offset that is not negative
abbrev pub offset_of : ℤ → ℕ
offset_of (pos n) = n
offset_of (negsuc n) = 0

-- the address at an offset from what a register holds
abbrev pub reached : ℕ → ℤ → ℕ
reached x (pos n) = x + n
reached x (negsuc n) = (x + (4294967296 - suc n)) % 4294967296

abbrev pub added_view : ℕ → ℕ → ℕ → ℕ → View → View
added_view a x n c v =
    result_view a ((x + n + c) % 2 ^ 32) (carries_view (nat_le (2 ^ 32) (x + n + c))
    (overflows (signed x +ℤ signed n +ℤ pos c)) v)

abbrev pub subtracted_view : ℕ → ℕ → ℕ → ℕ → View → View
subtracted_view a x n c v =
    result_view a ((x + 2 ^ 33 - n - c) % 2 ^ 32)
    (carries_view (nat_lt x (n + c)) (overflows (signed x -ℤ signed n -ℤ pos c)) v)

abbrev pub operated_view : Operation → ℕ → ℕ → ℕ → View → View
operated_view Lsl a x n v = result_view a ((x * 2 ^ (n % 32)) % 2 ^ 32) v
operated_view Asr a x n v = result_view a (word_of_int (int_shr (signed x) (n % 32))) v
operated_view Ror a x n v = result_view a (rotate_right w32 x n) v
operated_view And a x n v = result_view a (bit_and x n) v
operated_view Ann a x n v = result_view a (bit_and x (2 ^ 32 - 1 - n)) v
operated_view Ior a x n v = result_view a (bit_or x n) v
operated_view Xor a x n v = result_view a (bit_xor x n) v
operated_view Add a x n v = added_view a x n 0 v
operated_view Sub a x n v = subtracted_view a x n 0 v
operated_view Mul a x n v = result_view a (product x n % 2 ^ 32) (high_view (product x n / 2 ^ 32) v)
operated_view Div a x n v =
    result_view a (word_of_int (int_div_euclid (signed x) (signed n)))
    (high_view (word_of_int (int_rem_euclid (signed x) (signed n))) v)
operated_view Adc a x n v = added_view a x n (from_bool v.carry) v
operated_view Sbc a x n v = subtracted_view a x n (from_bool v.carry) v

-- the place of the word that contains a byte
abbrev pub word_place : ℕ → ℕ
word_place at = at - at % 4

-- a byte of a word, counted from the lowest, and the word with that byte replaced
abbrev pub byte_in : ℕ → ℕ → ℕ
byte_in w k = w / 256 ^ k % 256

abbrev pub with_byte : ℕ → ℕ → ℕ → ℕ
with_byte w k byte = w % 256 ^ k + byte * 256 ^ k + w / 256 ^ (k + 1) * 256 ^ (k + 1)

-- the byte at an address
abbrev pub byte_at : View → ℕ → ℕ
byte_at v at = byte_in (v.words (word_place at)) (at % 4)

abbrev pub store_byte_view : ℕ → ℕ → View → View
store_byte_view at byte v = store_view (word_place at) (with_byte (v.words (word_place at)) (at % 4) byte) v

-- the view after an instruction that goes on to the next one; a branch is left to `branch_view`
abbrev pub after : Instr → View → View
after (Move a n) v = result_view a (operand_view v n) v
after (MoveTop a n) v = result_view a (n * 65536) v
after (MoveHigh a) v = result_view a v.high v
after (Operate op a b n) v = operated_view op a (v.registers b) (operand_view v n) v
after (Load Word a b off) v = result_view a (v.words (reached (v.registers b) off)) v
after (Load Byte a b off) v = result_view a (byte_at v (v.registers b + offset_of off)) v
after (Store Word a b off) v = store_view (v.registers b + offset_of off) (v.registers a) v
after (Store Byte a b off) v = store_byte_view (v.registers b + offset_of off) (v.registers a % 256) v
after (Branch condition link target) v = v

abbrev pub line : List Instr → View → View
line [] v = v
line (i ∷ is) v = line is (after i v)

-- ---- the instructions that `after` describes: no branch, no access to the device page, no negative offset but that of
-- a word that is loaded; a byte is stored past the code, as a word is

abbrev pub IsPlainOffset : ℤ → Type 0
IsPlainOffset (pos n) = Unit {0}
IsPlainOffset (negsuc n) = ⊥

abbrev pub IsWordOffset : ℤ → Type 0
IsWordOffset (pos n) = Unit {0}
IsWordOffset (negsuc n) = n < 4294967296

-- DIV requires a positive divisor
abbrev pub IsPlainOperation : Operation → ℕ → Type 0
IsPlainOperation Div n = int_lt (pos 0) (signed n) ≡ true
IsPlainOperation _ n = Unit {0}

abbrev pub Plain : List ℕ → ℕ → Instr → View → Type 0
Plain code size (Move a n) v = Unit {0}
Plain code size (MoveTop a n) v = Unit {0}
Plain code size (MoveHigh a) v = Unit {0}
Plain code size (Operate op a b n) v = IsPlainOperation op (operand_view v n)
Plain code size (Load Word a b off) v = IsWordOffset off × IsReadable size (reached (v.registers b) off)
Plain code size (Load Byte a b off) v = IsPlainOffset off × IsReadable size (word_place (v.registers b + offset_of off))
Plain code size (Store Word a b off) v = IsPlainOffset off × IsWritable code size (v.registers b + offset_of off)
Plain code size (Store Byte a b off) v =
    IsPlainOffset off × IsWritable code size (word_place (v.registers b + offset_of off))
Plain code size (Branch condition link target) v = ⊥

abbrev pub AllPlain : List ℕ → ℕ → List Instr → View → Type 0
AllPlain code size [] v = Unit {0}
AllPlain code size (i ∷ is) v = Plain code size i v × AllPlain code size is (after i v)

-- ---- branches

abbrev pub holds_view : View → Condition → Bool
holds_view v Minus = v.negative
holds_view v Equal = v.equal
holds_view v CarrySet = v.carry
holds_view v OverflowSet = v.overflow
holds_view v Less = differ v.negative v.overflow
holds_view v LessEqual = differ v.negative v.overflow || v.equal
holds_view v Always = true
holds_view v Plus = not v.negative
holds_view v NotEqual = not v.equal
holds_view v CarryClear = not v.carry
holds_view v OverflowClear = not v.overflow
holds_view v GreaterEqual = not (differ v.negative v.overflow)
holds_view v Greater = not (differ v.negative v.overflow || v.equal)
holds_view v Never = false

abbrev pub target_view : View → Target → ℕ
target_view v (Relative d) = (v.place + 1 + word_of_int d) % PLACES
target_view v (Absolute c) = v.registers c % ADDRESSES / 4

-- the link in R15, with the place left as it is
abbrev pub link_view : Bool → View → View
link_view true v =
    record v {
      registers = update 15 (4 * (v.place + 1)) v.registers;
      negative = nat_le SIGN_BIT
          (4 * (v.place + 1));
      equal = nat_eq (4 * (v.place + 1)) 0;
    }
link_view false v = v
