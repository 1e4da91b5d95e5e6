-- What the lowering requires of the run-time routines that read: they are given the address of the two words that
-- record what was taken ahead of the input.
use Rattle.std.specs.Prelude.{◌≡◌, ℕ, suc, ◌+◌, ◌<◌, ℤ, pos, negsuc, Bool, true, false, ◌==◌, if◌then◌else◌, List, []}
use Rattle.std.specs.Prelude.{◌∷◌, ◌++◌, length, Option, Some, None}
use Rattle.std.specs.List.{All}
use Rattle.tac_code.specs.declared.code.Block.{Block}
use Rattle.tac_code.specs.declared.code.Value.TheVariants.{Number, Address}
use Rattle.tac_code.specs.declared.code.Instruction.TheVariants.{Call}
use Rattle.tac_code.specs.Numbers.{is_integer}
use Rattle.tac_code.specs.Memory.{Memory, load, store}
use Rattle.tac_code.specs.Meaning.{State, text_at, fetch, values_of, giving}
use Rattle.ps_meaning.specs.Text.{Input, next_character, looked_at, look_marks, taken, as_character, Reading, EndFound}
use Rattle.ps_meaning.specs.Text.{NoInteger, Integer, scan_integer, marks_to, after_integer, after_line, line_marks}
use Rattle.tac_code_steps.specs.Runs.{Comes}
use Rattle.tac_code_steps.specs.Routines.{Does, Fresh}
use Rattle.tac_rt.specs.declared.run_time.RunTime.TheVariants as routine
use Rattle.tac_rt.specs.Numbers.{run_time_number}
use Rattle.ps_lower_relation.specs.Ghosts.{ahead, begun, tape_of}
use Rattle.ps_lower_relation.specs.Here.{Setting, machine_of, code_in}

-- the words are at an address
abbrev pub InputAt : Setting → Memory → Block → ℕ → Input → Type 0
InputAt p m b o i = (load (text_at (code_in p)) m b o ≡ Some (Number (ahead i)))
    × (load (text_at (code_in p)) m b (o + 4) ≡ Some (Number (begun i)))

-- both words are replaced, one after the other
abbrev pub Renewed : (before : Memory) → Block → ℕ → Input → (after : Memory) → Type 0
Renewed before b o i after = (middle : Memory) × (store before b o (Number (ahead i)) ≡ Some middle)
    × (store middle b (o + 4) (Number (begun i)) ≡ Some after)

-- the first word is replaced after a look, unless it was looked at before
abbrev pub LookedIn : (looked : Bool) → (before : Memory) → Block → ℕ → ℤ → (after : Memory) → Type 0
LookedIn true before b o z after = after ≡ before
LookedIn false before b o z after = store before b o (Number z) ≡ Some after

-- what comes next: 0 nothing, 1 a line end, 2 another character
abbrev pub kind_of : Option ℕ → ℤ
kind_of None = pos 0
kind_of (Some b) = if b == 10 then pos 1 else pos 2

-- the next character, or -1 for none
abbrev pub character_or_end : Option ℕ → ℤ
character_or_end None = negsuc 0
character_or_end (Some b) = pos (as_character b)

-- 1 if nothing is left to read
abbrev pub nothing_left : Option ℕ → ℤ
nothing_left None = pos 1
nothing_left (Some b) = pos 0

-- What the routine returns for an integer that was found, and where it leaves it: 0 if it has 32 bits, 1 if it has not.
abbrev pub IntegerRead : (fits : Bool) → (middle : Memory) → (to : Block) (place : ℕ) → ℤ → (code : ℤ)
    → (after : Memory) → Type 0
IntegerRead true middle to place x code after = (code ≡ pos 0) × (store middle to place (Number x) ≡ Some after)
IntegerRead false middle to place x code after = code ≡ pos 1

-- 2 if there is no integer, 3 at the end of the input
abbrev pub NumberRead : (middle : Memory) → (to : Block) (place : ℕ) → Reading → (code : ℤ) → (after : Memory) → Type 0
NumberRead middle to place EndFound code after = code ≡ pos 3
NumberRead middle to place NoInteger code after = code ≡ pos 2
NumberRead middle to place (Integer x) code after = IntegerRead (is_integer x) middle to place x code after

-- the effect of a call of that routine in a state
pub record NumberHere (p : Setting) (to : Block) (place : ℕ) (i : Input) (middle : Memory) (transcript : List ℕ)
    (s : State) (t : ℕ) : Type 0 where
  pub code : ℤ
  pub after : Memory
  pub read : NumberRead middle to place (scan_integer i.left).found code after
  pub comes : Comes (machine_of p) s (record s {
    current = giving t (Number code) s.current;
    memory = after;
    tape = tape_of
        (after_integer (scan_integer i.left).rest)
        (transcript ++ marks_to i (scan_integer i.left).rest);
    count = suc s.count;
  })

-- a look at the next character; the next character, looked at and taken; the rest of a line and its end; and an
-- integer, which goes to an address
pub record ReadsDo (p : Setting) : Type 0 where
  pub look : (b : Block) (o : ℕ) (i : Input) (before after : Memory) (transcript : List ℕ) → InputAt p before b o i
      → LookedIn i.looked before b o (ahead (looked_at i)) after → InputAt p after b o (looked_at i) → Does
      (machine_of p) (run_time_number routine.LookAhead) (Address b o ∷ []) before (tape_of i transcript)
      (Number (kind_of (next_character i))) after
      (tape_of (looked_at i) (transcript ++ look_marks i))
  pub character : (b : Block) (o : ℕ) (i : Input) (before after : Memory) (transcript : List ℕ) → InputAt p before b o i
      → Renewed before b o (taken i) after → Does
      (machine_of p) (run_time_number routine.ReadCharacter) (Address b o ∷ []) before (tape_of i transcript)
      (Number (character_or_end (next_character i))) after (tape_of (taken i) (transcript ++ look_marks i))
  pub line : (b : Block) (o : ℕ) (i : Input) (before after : Memory) (transcript : List ℕ) → InputAt p before b o i
      → Renewed before b o (after_line i) after → Does
      (machine_of p) (run_time_number routine.ReadLine) (Address b o ∷ []) before (tape_of i transcript)
      (Number (nothing_left (next_character i))) after
      (tape_of (after_line i) (transcript ++ line_marks i))
  pub number : (b : Block) (o : ℕ) (to : Block) (place : ℕ) (i : Input) (middle : Memory) (transcript : List ℕ)
      (s : State) (t line : ℕ) (operands : List ℕ) → s.tape ≡ tape_of i transcript → InputAt p s.memory b o i → All
      (λ b. b < 256) i.left → Renewed s.memory b o (after_integer (scan_integer i.left).rest) middle
      → ((z : ℤ) → (memory : Memory) × (store middle to place (Number z) ≡ Some memory)) → Fresh s
      → values_of s.current.temporaries operands ≡ Some (Address b o ∷ Address to place ∷ []) → fetch
      (code_in p) s.current.routine s.current.place ≡ Some
      (Call t (length (code_in p).program + run_time_number routine.ReadNumber) operands line)
      → NumberHere p to place i middle transcript s t
