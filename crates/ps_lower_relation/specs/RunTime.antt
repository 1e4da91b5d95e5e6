-- What the lowering requires of the run-time routines.
use Rattle.std.specs.Prelude.{◌≡◌, ◌==◌, ◌-ℤ◌, if◌then◌else◌, ℕ, zero, suc, ◌+◌, ◌*◌, ◌<◌, ◌%◌, ℤ, pos, unsigned_abs}
use Rattle.std.specs.Prelude.{IsTrue, List, [], ◌∷◌, length, slice_get, Some, ◌/◌, int_lt, Bool, true}
use Rattle.std.specs.List.{All}
use Rattle.tac_code.specs.declared.code.TheConstants.{BLOCK_LIMIT, NUMBER_LIMIT}
use Rattle.tac_code.specs.declared.code.Block.{Block}
use Rattle.tac_code.specs.declared.code.Value.{Value as Word}
use Rattle.tac_code.specs.declared.code.Value.TheVariants.{Number, Address}
use Rattle.tac_code.specs.declared.code.BitOperator.{BitOperator}
use Rattle.tac_code.specs.declared.code.BitOperator.TheVariants.{Or, ShiftLeft}
use Rattle.tac_code.specs.Numbers.{is_integer, bits, truth}
use Rattle.tac_code.specs.Memory.{Memory, load, load_byte, store, store_byte}
use Rattle.tac_code.specs.Meaning.{Tape, text_at}
use Rattle.ps_tree.specs.declared.tree.operators.SetOperator.{SetOperator}
use Rattle.ps_meaning.specs.Operators.{is_included, is_member}
use Rattle.ps_meaning.specs.Text.{right_aligned, fitted, integer_text}
use Rattle.tac_code_steps.specs.Routines.{Does, wrote}
use Rattle.tac_rt.specs.declared.run_time.RunTime.TheVariants as routine
use Rattle.tac_rt.specs.Numbers.{run_time_number}
use Rattle.ps_lower_code.specs.Values.{set_routine}
use Rattle.ps_lower_relation.specs.Sets.{set_number, bit_operator_of}
use Rattle.ps_lower_relation.specs.Here.{Setting, machine_of, code_in}
use Rattle.ps_lower_relation.specs.Reading.{ReadsDo}

-- the bytes of a string are at an address
abbrev pub BytesAt : Setting → Memory → Block → ℕ → List ℕ → Type 0
BytesAt p m b o text = (i byte : ℕ) → slice_get text i ≡ Some byte → load_byte (text_at (code_in p)) m b (o + i)
    ≡ Some byte

-- `count` words are copied from one place to another, one after the other: each is read when those before it may have
-- been written already
abbrev pub CopiedUp : Setting → (before : Memory) → (to : Block) (place : ℕ) → (from : Block) (start : ℕ) → (count : ℕ)
    → (memory : Memory) → Type 0
CopiedUp p before to place from start zero memory = before ≡ memory
CopiedUp p before to place from start (suc n) memory =
    (v : Word) × (middle : Memory) × (load (text_at (code_in p)) before from start ≡ Some v)
    × (store before to place v ≡ Some middle) × CopiedUp p middle to (place + 4) from (start + 4) n memory

-- words that hold bytes are packed to bytes, one after the other: each is read when those before it may have been
-- written already
abbrev pub PackedUp : Setting → (before : Memory) → (to : Block) (place : ℕ) → (from : Block) (start : ℕ) → List ℕ
    → (after : Memory) → Type 0
PackedUp p before to place from start [] after = before ≡ after
PackedUp p before to place from start (b ∷ bytes) after =
    (middle : Memory) × (load (text_at (code_in p)) before from start ≡ Some (Number (pos b))) × (b < 256)
    × (store_byte before to place b ≡ Some middle) × PackedUp p middle to (place + 1) from (start + 4) bytes after

-- bytes are unpacked to words, one after the other: each is read when those before it may have been written already
abbrev pub UnpackedUp : Setting → (before : Memory) → (to : Block) (place : ℕ) → (from : Block) (start : ℕ) → List ℕ
    → (after : Memory) → Type 0
UnpackedUp p before to place from start [] after = before ≡ after
UnpackedUp p before to place from start (b ∷ bytes) after =
    (middle : Memory) × (load_byte (text_at (code_in p)) before from start ≡ Some b)
    × (store before to place (Number (pos b)) ≡ Some middle) × UnpackedUp p middle to (place + 4) from
    (start + 1) bytes after

-- `count` words of one stretch are combined with those of another, one after the other
abbrev pub JoinedUp : Setting → BitOperator → (before : Memory) → (to : Block) (place : ℕ) → (from : Block) (start : ℕ)
    → (count : ℕ) → (after : Memory) → Type 0
JoinedUp p operator before to place from start zero after = before ≡ after
JoinedUp p operator before to place from start (suc n) after =
    (x : ℤ) × (y : ℤ) × (middle : Memory) × (load (text_at (code_in p)) before to place ≡ Some (Number x))
    × (load (text_at (code_in p)) before from start ≡ Some (Number y))
    × (store before to place (Number (bits operator x y)) ≡ Some middle) × JoinedUp p operator middle to
    (place + 4) from (start + 4) n after

-- `count` members from n on are added, one after the other: each is a bit of its word
abbrev pub AddedUp : Setting → (before : Memory) → Block → (offset : ℕ) → (n count : ℕ) → (after : Memory) → Type 0
AddedUp p before b o n zero after = before ≡ after
AddedUp p before b o n (suc count) after =
    (x : ℤ) × (middle : Memory) × (load (text_at (code_in p)) before b (o + 4 * (n / 32)) ≡ Some (Number x))
    × (store before b (o + 4 * (n / 32)) (Number (bits Or x (bits ShiftLeft (pos 1) (pos n)))) ≡ Some middle)
    × AddedUp p middle b o (suc n) count after

-- the eight words of a set are at an address
abbrev pub SetAt : Setting → Memory → Block → ℕ → (ℕ → Bool) → Type 0
SetAt p m b o s = (q : ℕ) → q < 8 → load (text_at (code_in p)) m b (o + 4 * q) ≡ Some (Number (set_number s q))

-- sets: the members from one to another are added, none if the first is greater than the last; two sets are combined;
-- whether one is included in another, and whether an integer is a member
pub record SetsDo (p : Setting) : Type 0 where
  pub nothing : (x y : ℤ) (b : Block) (o : ℕ) (memory : Memory) (tape : Tape) → int_lt y x ≡ true → Does
      (machine_of p) (run_time_number routine.AddRange) (Address b o ∷ Number x ∷ Number y ∷ []) memory tape
      (Number (pos 0)) memory tape
  pub added : (n count : ℕ) (b : Block) (o : ℕ) (before after : Memory) (tape : Tape) → n + count < 256
      → AddedUp p before b o n (suc count) after → o + 32 < BLOCK_LIMIT → Does
      (machine_of p) (run_time_number routine.AddRange)
      (Address b o ∷ Number (pos n) ∷ Number (pos (n + count)) ∷ []) before tape (Number (pos 0)) after tape
  pub joined : (operator : SetOperator) (to : Block) (place : ℕ) (from : Block) (start : ℕ) (before after : Memory)
      (tape : Tape) → JoinedUp p (bit_operator_of operator) before to place from start 8 after → place
      + 32 < BLOCK_LIMIT → start + 32 < BLOCK_LIMIT → Does (machine_of p) (run_time_number (set_routine operator))
      (Address to place ∷ Address from start ∷ []) before tape (Number (pos 0)) after tape
  pub included : (b : Block) (o : ℕ) (b' : Block) (o' : ℕ) (s t : ℕ → Bool) (memory : Memory) (tape : Tape)
      → SetAt p memory b o s → SetAt p memory b' o' t → o + 32 < BLOCK_LIMIT → o' + 32 < BLOCK_LIMIT → Does
      (machine_of p) (run_time_number routine.IsIncluded) (Address b o ∷ Address b' o' ∷ []) memory tape
      (Number (truth (is_included s t))) memory tape
  pub member : (x : ℤ) (b : Block) (o : ℕ) (s : ℕ → Bool) (memory : Memory) (tape : Tape) → SetAt p memory b o s → o
      + 32 < BLOCK_LIMIT → Does (machine_of p) (run_time_number routine.IsMember) (Number x ∷ Address b o ∷ []) memory
      tape (Number (truth (is_member x s))) memory tape

-- the difference of the first bytes that differ, left minus right, or 0
abbrev pub first_difference : List ℕ → List ℕ → ℤ
first_difference [] right = pos 0
first_difference (a ∷ left) [] = pos 0
first_difference (a ∷ left) (b ∷ right) = if a == b then first_difference left right else pos a -ℤ pos b

-- writes: an integer, a character by any integer that represents it, a string; words, which are copied; words that are
-- packed to bytes, and bytes that are unpacked to words; two strings of one length, which are compared; sets; and reads
pub record WritesDo (p : Setting) : Type 0 where
  pub sets : SetsDo p
  pub number : (x : ℤ) (width : ℕ) (memory : Memory) (tape : Tape) → IsTrue (is_integer x) → width < NUMBER_LIMIT → Does
      (machine_of p) (run_time_number routine.WriteNumber) (Number x ∷ Number (pos width) ∷ []) memory tape
      (Number (pos 0)) memory (wrote tape (right_aligned width (integer_text x)))
  pub character : (x : ℤ) (width : ℕ) (memory : Memory) (tape : Tape) → IsTrue (is_integer x) → width < NUMBER_LIMIT
      → Does (machine_of p) (run_time_number routine.WriteCharacter) (Number x ∷ Number (pos width) ∷ []) memory tape
      (Number (pos 0)) memory (wrote tape (right_aligned width (unsigned_abs x % 256 ∷ [])))
  pub string : (b : Block) (o : ℕ) (text : List ℕ) (width : ℕ) (memory : Memory) (tape : Tape)
      → BytesAt p memory b o text → All (λ byte. byte < 256) text → o + length text < BLOCK_LIMIT → width < NUMBER_LIMIT
      → Does (machine_of p) (run_time_number routine.WriteString)
      (Address b o ∷ Number (pos (length text)) ∷ Number (pos width) ∷ []) memory tape (Number (pos 0)) memory
      (wrote tape (fitted width text))
  pub words : (to : Block) (place : ℕ) (from : Block) (start n : ℕ) (before after : Memory) (tape : Tape)
      → CopiedUp p before to place from start n after → place + 4 * n < BLOCK_LIMIT → start + 4 * n < BLOCK_LIMIT → Does
      (machine_of p) (run_time_number routine.CopyWords)
      (Address to place ∷ Address from start ∷ Number (pos (4 * n)) ∷ []) before tape (Number (pos 0)) after tape
  pub packed : (to : Block) (place : ℕ) (from : Block) (start : ℕ) (bytes : List ℕ) (before after : Memory)
      (tape : Tape) → PackedUp p before to place from start bytes after → place + length bytes < BLOCK_LIMIT → start
      + 4 * length bytes < BLOCK_LIMIT → Does (machine_of p) (run_time_number routine.PackBytes)
      (Address to place ∷ Address from start ∷ Number (pos (length bytes)) ∷ []) before tape (Number (pos 0)) after tape
  pub unpacked : (to : Block) (place : ℕ) (from : Block) (start : ℕ) (bytes : List ℕ) (before after : Memory)
      (tape : Tape) → UnpackedUp p before to place from start bytes after → place + 4 * length bytes < BLOCK_LIMIT
      → start + length bytes < BLOCK_LIMIT → Does (machine_of p) (run_time_number routine.UnpackBytes)
      (Address to place ∷ Address from start ∷ Number (pos (length bytes)) ∷ []) before tape (Number (pos 0)) after tape
  pub difference : (x : Block) (place : ℕ) (y : Block) (start : ℕ) (left right : List ℕ) (memory : Memory) (tape : Tape)
      → BytesAt p memory x place left → BytesAt p memory y start right → All (λ byte. byte < 256) left → All
      (λ byte. byte < 256) right → length left ≡ length right → place + length left < BLOCK_LIMIT → start
      + length right < BLOCK_LIMIT → Does (machine_of p) (run_time_number routine.CompareBytes)
      (Address x place ∷ Address y start ∷ Number (pos (length left)) ∷ []) memory tape
      (Number (first_difference left right)) memory tape
  pub reads : ReadsDo p
