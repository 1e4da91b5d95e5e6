-- What the run-time routines do, in terms of what programs mean.
use Rattle.std.specs.Prelude.{int_lt, ◌==◌, ◌/◌, not, ◌-ℤ◌, if◌then◌else◌, zero, suc, ◌*◌, ◌%◌, ◌≡◌, ℤ, unsigned_abs}
use Rattle.std.specs.Prelude.{IsTrue, Bool, true, false, ◌++◌, Option, Some, None, negsuc, ℕ, ◌+◌, ◌<◌, pos, List, []}
use Rattle.std.specs.Prelude.{◌∷◌, length}
use Rattle.std.specs.List.{All}
use Rattle.tac_code.specs.declared.code.TheConstants.{BLOCK_LIMIT, NUMBER_LIMIT}
use Rattle.tac_code.specs.declared.code.Block.{Block}
use Rattle.tac_code.specs.declared.code.BitOperator.{BitOperator}
use Rattle.tac_code.specs.declared.code.BitOperator.TheVariants.{And, Or, AndNot, ShiftLeft}
use Rattle.tac_code.specs.declared.code.Value.{Value}
use Rattle.tac_code.specs.declared.code.Value.TheVariants.{Number, Address}
use Rattle.tac_code.specs.Memory.{Memory, Constants, load, load_byte, store, store_byte}
use Rattle.tac_code.specs.Numbers.{is_integer, bits, truth, same_number, is_in_range}
use Rattle.tac_code.specs.Meaning.{Code, State, Tape, text_at, fetch, values_of, giving}
use Rattle.tac_code.specs.Sound.{AreSoundRoutines, AreLeaves}
use Rattle.tac_code_steps.specs.Runs.{Machine, Comes}
use Rattle.tac_code_steps.specs.Routines.{Does, Fresh, wrote}
use Rattle.tac_code.specs.declared.code.Instruction.TheVariants.{Call}
use Rattle.ps_meaning.specs.Text.{Input, next_character, looked_at, look_marks, taken, as_character, Reading, EndFound}
use Rattle.ps_meaning.specs.Text.{NoInteger, Integer, scan_integer, marks_to, after_integer, after_line, line_marks}
use Rattle.ps_meaning.specs.Text.{right_aligned, fitted, integer_text}
use Rattle.tac_rt.specs.declared.run_time.RunTime.TheVariants as routine
use Rattle.tac_rt.specs.Bodies.{run_time_routines}
use Rattle.tac_rt.specs.Numbers.{run_time_number}
use Rattle.tac_rt.specs.Calls.{HasRoutines, BytesAt}
use Rattle.tac_rt.specs.Inputs.{ahead, begun, tape_of, InputAt, kind_of}

-- An integer right-aligned in a field, which is wider if needed (6.9.3.2): the integer and the width of the field.
abbrev pub WritesNumbers : Type 0
WritesNumbers =
    (m : Machine) (x : ℤ) (width : ℕ) (memory : Memory) (tape : Tape) →
    HasRoutines m → IsTrue (is_integer x) → width < NUMBER_LIMIT →
    Does m (run_time_number routine.WriteNumber) (Number x ∷ Number (pos width) ∷ []) memory tape (Number (pos 0))
    memory (wrote tape (right_aligned width (integer_text x)))

-- A character right-aligned in a field (6.9.3.3): an integer, whose absolute value modulo 256 counts, and the width of
-- the field.
abbrev pub WritesCharacters : Type 0
WritesCharacters =
    (m : Machine) (x : ℤ) (width : ℕ) (memory : Memory) (tape : Tape) →
    HasRoutines m → IsTrue (is_integer x) → width < NUMBER_LIMIT →
    Does m (run_time_number routine.WriteCharacter) (Number x ∷ Number (pos width) ∷ []) memory tape (Number (pos 0))
    memory (wrote tape (right_aligned width (unsigned_abs x % 256 ∷ [])))

-- A string right-aligned in a field, or its first characters (6.9.3.6): its address, its length and the field's width.
abbrev pub WritesStrings : Type 0
WritesStrings =
    (m : Machine) (block : Block) (offset : ℕ) (text : List ℕ) (width : ℕ) (memory : Memory) (tape : Tape) →
    HasRoutines m → BytesAt (text_at m.code) memory block offset text →
    offset + length text < BLOCK_LIMIT → width < NUMBER_LIMIT →
    Does m (run_time_number routine.WriteString)
    (Address block offset ∷ Number (pos (length text)) ∷ Number (pos width) ∷ []) memory tape
    (Number (pos 0)) memory (wrote tape (fitted width text))

-- the memory after a look: the first word is replaced, unless it was looked at before
abbrev pub LookedIn : (looked : Bool) (before : Memory) (block : Block) (offset : ℕ) → ℤ → (memory : Memory) → Type 0
LookedIn true before block offset z memory = memory ≡ before
LookedIn false before block offset z memory = store before block offset (Number z) ≡ Some memory

-- A look at the next character (6.6.6.5): the address of the words of the input.
abbrev pub LooksAhead : Type 0
LooksAhead =
    (m : Machine) (block : Block) (offset : ℕ) (i : Input) (before after : Memory) (transcript : List ℕ) →
    HasRoutines m → InputAt (text_at m.code) before block offset i →
    LookedIn i.looked before block offset (ahead (looked_at i)) after → InputAt (text_at m.code) after block offset
    (looked_at i) →
    Does m (run_time_number routine.LookAhead) (Address block offset ∷ []) before (tape_of i transcript)
    (Number (kind_of (next_character i))) after
    (tape_of (looked_at i) (transcript ++ look_marks i))

-- the memory with both words of the input replaced
pub record Renewed (before : Memory) (block : Block) (offset : ℕ) (i : Input) (memory : Memory) : Type 0 where
  pub middle : Memory
  pub first : store before block offset (Number (ahead i)) ≡ Some middle
  pub second : store middle block (offset + 4) (Number (begun i)) ≡ Some memory

abbrev pub character_or_end : Option ℕ → ℤ
character_or_end None = negsuc 0
character_or_end (Some b) = pos (as_character b)

-- The next character, looked at and taken (6.9.1), or -1 at the end of the input.
abbrev pub ReadsCharacters : Type 0
ReadsCharacters =
    (m : Machine) (block : Block) (offset : ℕ) (i : Input) (before after : Memory) (transcript : List ℕ) →
    HasRoutines m → InputAt (text_at m.code) before block offset i →
    Renewed before block offset (taken i) after →
    Does m (run_time_number routine.ReadCharacter) (Address block offset ∷ []) before (tape_of i transcript)
    (Number (character_or_end (next_character i))) after (tape_of (taken i) (transcript ++ look_marks i))

-- What the routine returns for an integer that was found, and where it leaves it: 0 if it has 32 bits, 1 if it has not.
abbrev pub IntegerRead : (fits : Bool) → (middle : Memory) → (to : Block) (place : ℕ) → ℤ → (code : ℤ)
    → (after : Memory) → Type 0
IntegerRead true middle to place x code after = (code ≡ pos 0) × (store middle to place (Number x) ≡ Some after)
IntegerRead false middle to place x code after = code ≡ pos 1

-- 2 if there is no integer, 3 at the end of the input
abbrev pub NumberRead : (middle : Memory) → (to : Block) (place : ℕ) → Reading → (code : ℤ) → (after : Memory) → Type 0
NumberRead middle to place EndFound code after = code ≡ pos 3
NumberRead middle to place NoInteger code after = code ≡ pos 2
NumberRead middle to place (Integer x) code after = IntegerRead (is_integer x) middle to place x code after

-- the effect of a call in a state
pub record ReadNumber (m : Machine) (to : Block) (place : ℕ) (i : Input) (middle : Memory) (transcript : List ℕ)
    (s : State) (t : ℕ) : Type 0 where
  pub code : ℤ
  pub after : Memory
  pub read : NumberRead middle to place (scan_integer i.left).found code after
  pub comes : Comes m s (record s {
    current = giving t (Number code) s.current;
    memory = after;
    tape = tape_of
        (after_integer (scan_integer i.left).rest)
        (transcript ++ marks_to i (scan_integer i.left).rest);
    count = suc s.count;
  })

-- An integer (6.9.1): the address of the words of the input, and where it goes. If one is found, the words of the input
-- are updated first.
abbrev pub ReadsNumbers : Type 0
ReadsNumbers =
    (m : Machine) (block : Block) (offset : ℕ) (to : Block) (place : ℕ) (i : Input) (middle : Memory)
    (transcript : List ℕ) (s : State) (t line : ℕ) (operands : List ℕ) →
    HasRoutines m → s.tape ≡ tape_of i transcript → InputAt (text_at m.code) s.memory block offset i → All
    (λ b. b < 256) i.left →
    Renewed s.memory block offset (after_integer (scan_integer i.left).rest) middle
    → ((z : ℤ) → (memory : Memory) × (store middle to place (Number z) ≡ Some memory)) →
    Fresh s → values_of s.current.temporaries operands ≡ Some (Address block offset ∷ Address to place ∷ []) →
    fetch m.code s.current.routine s.current.place ≡ Some
    (Call t (length m.code.program + run_time_number routine.ReadNumber) operands line) →
    ReadNumber m to place i middle transcript s t

-- 1 if nothing is left to read
abbrev pub nothing_left : Option ℕ → ℤ
nothing_left None = pos 1
nothing_left (Some b) = pos 0

-- The rest of a line and its end are skipped (6.9.2): the address of the words of the input. The result says whether
-- nothing was left.
abbrev pub ReadsLines : Type 0
ReadsLines =
    (m : Machine) (block : Block) (offset : ℕ) (i : Input) (before after : Memory) (transcript : List ℕ) →
    HasRoutines m → InputAt (text_at m.code) before block offset i →
    Renewed before block offset (after_line i) after →
    Does m (run_time_number routine.ReadLine) (Address block offset ∷ []) before (tape_of i transcript)
    (Number (nothing_left (next_character i))) after
    (tape_of (after_line i) (transcript ++ line_marks i))

-- `count` words, one after another: each is read when those before it may have been written already
abbrev pub CopiedUp : Constants → (before : Memory) → (to : Block) (place : ℕ) → (from : Block) (start : ℕ)
    → (count : ℕ) → (memory : Memory) → Type 0
CopiedUp constants before to place from start zero memory = before ≡ memory
CopiedUp constants before to place from start (suc n) memory =
    (v : Value) × (middle : Memory) × (load constants before from start ≡ Some v)
    × (store before to place v ≡ Some middle) × CopiedUp constants middle to (place + 4) from (start + 4) n memory

-- Words are copied: the address to copy to, the address to copy from, and the number of bytes.
abbrev pub CopiesWords : Type 0
CopiesWords =
    (m : Machine) (to : Block) (place : ℕ) (from : Block) (start n : ℕ) (before after : Memory) (tape : Tape) →
    HasRoutines m → CopiedUp (text_at m.code) before to place from start n after →
    place + 4 * n < BLOCK_LIMIT → start + 4 * n < BLOCK_LIMIT →
    Does m (run_time_number routine.CopyWords) (Address to place ∷ Address from start ∷ Number (pos (4 * n)) ∷ [])
    before tape (Number (pos 0)) after tape

-- the difference of the first bytes that differ, left minus right, or 0
abbrev pub first_difference : List ℕ → List ℕ → ℤ
first_difference [] right = pos 0
first_difference (a ∷ left) [] = pos 0
first_difference (a ∷ left) (b ∷ right) = if a == b then first_difference left right else pos a -ℤ pos b

-- Two strings of one length are compared (6.7.2.5): their addresses, and their number of bytes.
abbrev pub ComparesBytes : Type 0
ComparesBytes =
    (m : Machine) (x : Block) (place : ℕ) (y : Block) (start : ℕ) (left right : List ℕ) (memory : Memory) (tape : Tape)
    →
    HasRoutines m → BytesAt (text_at m.code) memory x place left → BytesAt (text_at m.code) memory y start right
    → length left ≡ length right →
    place + length left < BLOCK_LIMIT → start + length right < BLOCK_LIMIT →
    Does m (run_time_number routine.CompareBytes)
    (Address x place ∷ Address y start ∷ Number (pos (length left)) ∷ []) memory tape
    (Number (first_difference left right)) memory tape

-- words that hold bytes, one after another, to bytes; each is read when those before it may have been written already
abbrev pub PackedUp : Constants → (before : Memory) → (to : Block) (place : ℕ) → (from : Block) (start : ℕ) → List ℕ
    → (after : Memory) → Type 0
PackedUp constants before to place from start [] after = before ≡ after
PackedUp constants before to place from start (b ∷ bytes) after =
    (middle : Memory) × (load constants before from start ≡ Some (Number (pos b))) × (b < 256)
    × (store_byte before to place b ≡ Some middle) × PackedUp constants middle to (place + 1) from
    (start + 4) bytes after

-- Words are packed to bytes (6.6.5.4): the address to write to, the address to read from, and how many.
abbrev pub PacksBytes : Type 0
PacksBytes =
    (m : Machine) (to : Block) (place : ℕ) (from : Block) (start : ℕ) (bytes : List ℕ) (before after : Memory)
    (tape : Tape) →
    HasRoutines m → PackedUp (text_at m.code) before to place from start bytes after →
    place + length bytes < BLOCK_LIMIT → start + 4 * length bytes < BLOCK_LIMIT →
    Does m (run_time_number routine.PackBytes)
    (Address to place ∷ Address from start ∷ Number (pos (length bytes)) ∷ []) before tape (Number (pos 0)) after tape

-- bytes, one after another, to words
abbrev pub UnpackedUp : Constants → (before : Memory) → (to : Block) (place : ℕ) → (from : Block) (start : ℕ) → List ℕ
    → (after : Memory) → Type 0
UnpackedUp constants before to place from start [] after = before ≡ after
UnpackedUp constants before to place from start (b ∷ bytes) after =
    (middle : Memory) × (load_byte constants before from start ≡ Some b)
    × (store before to place (Number (pos b)) ≡ Some middle) × UnpackedUp constants middle to (place + 4) from
    (start + 1) bytes after

-- Bytes are unpacked to words (6.6.5.4): the address to write to, the address to read from, and how many.
abbrev pub UnpacksBytes : Type 0
UnpacksBytes =
    (m : Machine) (to : Block) (place : ℕ) (from : Block) (start : ℕ) (bytes : List ℕ) (before after : Memory)
    (tape : Tape) →
    HasRoutines m → UnpackedUp (text_at m.code) before to place from start bytes after →
    place + 4 * length bytes < BLOCK_LIMIT → start + length bytes < BLOCK_LIMIT →
    Does m (run_time_number routine.UnpackBytes)
    (Address to place ∷ Address from start ∷ Number (pos (length bytes)) ∷ []) before tape (Number (pos 0)) after tape

-- each of `count` words, combined with one of another block
abbrev pub JoinedUp : BitOperator → Constants → (before : Memory) → (to : Block) (place : ℕ) → (from : Block)
    (start : ℕ) → (count : ℕ) → (after : Memory) → Type 0
JoinedUp operator constants before to place from start zero after = before ≡ after
JoinedUp operator constants before to place from start (suc n) after =
    (x : ℤ) × (y : ℤ) × (middle : Memory) × (load constants before to place ≡ Some (Number x))
    × (load constants before from start ≡ Some (Number y))
    × (store before to place (Number (bits operator x y)) ≡ Some middle) × JoinedUp operator constants middle to
    (place + 4) from (start + 4) n after

-- The eight words of one set are combined with those of another, bit by bit (6.7.2.4): the address of the first, which
-- becomes the result, and that of the second.
abbrev pub JoinsSets : (number : ℕ) → BitOperator → Type 0
JoinsSets number operator =
    (m : Machine) (to : Block) (place : ℕ) (from : Block) (start : ℕ) (before after : Memory) (tape : Tape) →
    HasRoutines m → JoinedUp operator (text_at m.code) before to place from start 8 after →
    place + 32 < BLOCK_LIMIT → start + 32 < BLOCK_LIMIT →
    Does m number (Address to place ∷ Address from start ∷ []) before tape (Number (pos 0)) after tape

-- union, difference and intersection
pub record JoinedSets : Type 0 where
  pub union : JoinsSets (run_time_number routine.UniteSets) Or
  pub difference : JoinsSets (run_time_number routine.SubtractSet) AndNot
  pub intersection : JoinsSets (run_time_number routine.IntersectSets) And

-- `count` members from n on are added, one after another: each is a bit of its word
abbrev pub AddedUp : Constants → (before : Memory) → Block → (offset : ℕ) → (n count : ℕ) → (after : Memory) → Type 0
AddedUp constants before block offset n zero after = before ≡ after
AddedUp constants before block offset n (suc count) after =
    (w : ℤ) × (middle : Memory) × (load constants before block (offset + 4 * (n / 32)) ≡ Some (Number w))
    × (store before block (offset + 4 * (n / 32)) (Number (bits Or w (bits ShiftLeft (pos 1) (pos n))))
    ≡ Some middle) × AddedUp constants middle block offset (suc n) count after

-- The members from one to another are added to a set (6.7.1): the address of its eight words, the first and the last.
-- There are none if the first is greater than the last; otherwise both are in 0..255.
pub record AddsMembers : Type 0 where
  pub none : (m : Machine) (x y : ℤ) (block : Block) (offset : ℕ) (memory : Memory) (tape : Tape) → HasRoutines m
      → int_lt y x ≡ true → Does m (run_time_number routine.AddRange)
      (Address block offset ∷ Number x ∷ Number y ∷ []) memory tape (Number (pos 0)) memory tape
  pub some : (m : Machine) (n count : ℕ) (block : Block) (offset : ℕ) (before after : Memory) (tape : Tape)
      → HasRoutines m → n + count < 256 → AddedUp (text_at m.code) before block offset n (suc count) after → offset
      + 32 < BLOCK_LIMIT → Does m (run_time_number routine.AddRange)
      (Address block offset ∷ Number (pos n) ∷ Number (pos (n + count)) ∷ []) before tape (Number (pos 0)) after tape

-- these numbers are in the words of a block from an offset on
abbrev pub WordsAt : Constants → Memory → Block → (offset : ℕ) → List ℤ → Type 0
WordsAt constants memory block o [] = Unit {0}
WordsAt constants memory block o (z ∷ words) = (load constants memory block o ≡ Some (Number z))
    × WordsAt constants memory block (o + 4) words

-- no bit of the first set's words is missing in the second's
abbrev pub is_included : List ℤ → List ℤ → Bool
is_included [] right = true
is_included (x ∷ left) [] = true
is_included (x ∷ left) (y ∷ right) = if same_number (bits AndNot x y) (pos 0) then is_included left right else false

-- Whether each member of a set is one of another (6.7.2.5): the addresses of their eight words.
abbrev pub IncludesSets : Type 0
IncludesSets =
    (m : Machine) (x : Block) (place : ℕ) (y : Block) (start : ℕ) (left right : List ℤ) (memory : Memory) (tape : Tape)
    →
    HasRoutines m → WordsAt (text_at m.code) memory x place left → WordsAt (text_at m.code) memory y start right
    → length left ≡ 8 → length right ≡ 8 →
    place + 32 < BLOCK_LIMIT → start + 32 < BLOCK_LIMIT →
    Does m (run_time_number routine.IsIncluded) (Address x place ∷ Address y start ∷ []) memory tape
    (Number (truth (is_included left right))) memory tape

-- Whether an integer is a member of a set (6.7.2.5): the integer, and the address of the set's words. Outside 0..255 it
-- is not; otherwise its bit decides.
pub record FindsMembers : Type 0 where
  pub outside : (m : Machine) (x : ℤ) (block : Block) (offset : ℕ) (memory : Memory) (tape : Tape) → HasRoutines m
      → is_in_range (pos 0) (pos 255) x ≡ false → Does m (run_time_number routine.IsMember)
      (Number x ∷ Address block offset ∷ []) memory tape (Number (pos 0)) memory tape
  pub inside : (m : Machine) (n : ℕ) (block : Block) (offset : ℕ) (w : ℤ) (memory : Memory) (tape : Tape)
      → HasRoutines m → n < 256 → load (text_at m.code) memory block (offset + 4 * (n / 32)) ≡ Some (Number w) → offset
      + 32 < BLOCK_LIMIT → Does m (run_time_number routine.IsMember)
      (Number (pos n) ∷ Address block offset ∷ []) memory tape
      (Number (truth (not (same_number (bits And w (bits ShiftLeft (pos 1) (pos n))) (pos 0))))) memory tape

-- what the invariant of three-address code requires of its run-time routines: each target and each operand exists, and
-- they make no calls
pub record KeepInvariant (code : Code) : Type 0 where
  pub sound : AreSoundRoutines code run_time_routines
  pub leaves : AreLeaves run_time_routines

-- The routines keep it in any code.
abbrev pub RoutinesAreSound : Type 0
RoutinesAreSound = (code : Code) → KeepInvariant code
