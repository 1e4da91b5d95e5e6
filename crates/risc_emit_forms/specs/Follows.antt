-- An instruction of three-address code followed by its words.
use Rattle.std.specs.Prelude.{◌≡◌, ℕ, zero, suc, ◌+◌, ◌*◌, ◌%◌, ◌<◌, ◌≤◌, ◌⊎◌, true, false, nat_eq, nat_le, List, []}
use Rattle.std.specs.Prelude.{◌∷◌, length, slice_get, Option, Some, None, ℤ, pos, negsuc}
use Rattle.behavior.specs.Endings.{Ending, Normal, Fault, UnknownTrap, Stuck, ending_by}
use Rattle.behavior.specs.Transcripts.{AreBytes}
use Rattle.risc_word.specs.declared.instr.Operand.TheVariants.{Constant}
use Rattle.risc_word.specs.declared.instr.Width.TheVariants.{Word}
use Rattle.risc_word.specs.declared.instr.Instr.{Instr}
use Rattle.risc_word.specs.declared.instr.Instr.TheVariants.{Move, Store}
use Rattle.risc_image.specs.declared.header.TheConstants.{MAX_COUNT}
use Rattle.risc_machine.specs.declared.limits.TheConstants.{SIGN_BIT}
use Rattle.risc_machine.specs.Step as machine
use Rattle.risc_machine.specs.Exec as run
use Rattle.risc_machine_laws.specs.View.{View, Fits, HasAt, Shows, reached}
use Rattle.tac_code.specs.declared.code.Instruction.{Instruction}
use Rattle.tac_code.specs.declared.code.TacRoutine.{TacRoutine}
use Rattle.tac_code.specs.declared.code.Value.TheVariants.{Number}
use Rattle.tac_code.specs.Numbers.{word_of}
use Rattle.tac_code.specs.Memory.{Words, constant_at}
use Rattle.tac_code.specs.Meaning.{routines, fetch, text_at, Tape, State, Step, Goes, Over}
use Rattle.tac_code.specs.Sound.{IsSound}
use Rattle.risc_alloc.specs.declared.homes.Home.TheVariants.{Reg}
use Rattle.risc_emit_relation.specs.Context.{Context, home, called, is_program, Places, IsLaid, IsPlaced}
use Rattle.risc_emit_relation.specs.Related.{Machine, Related}
use Rattle.risc_emit_relation.specs.Walk.{walk}
use Rattle.risc_emit_forms.specs.Pieces.{Left}
use Rattle.risc_emit_relation.specs.Changes.{update}
use Rattle.risc_emit_forms.specs.Peephole.{flagged_at, deferred_at}
use Rattle.risc_emit_forms.specs.Forms.{accept, form, entry_form}

abbrev pub machine_of : View → Machine
machine_of v = record { registers = v.registers; words = v.words }

-- the stub of all stops: the link is the word that the machine stops with
abbrev pub stub : List Instr
stub = Move 12 (Constant (negsuc 63)) ∷ Store Word 15 12 (pos 4) ∷ []

-- the words of a placed program are where the context says
pub record Stood (c : Context) (words : List ℕ) : Type 0 where
  pub fits : Fits words c.size
  pub code : 4 * length words ≤ c.heap_at
  pub short : length words ≤ MAX_COUNT
  pub stub : HasAt words 1 stub
  -- each instruction, with its successor after it
  pub body : (r k : ℕ) (i : Instruction) → fetch c.code r k ≡ Some i → Left c words (c.site r k) (form c r k i)
      (c.site r (suc k))
  pub entry : (r : ℕ) (routine : TacRoutine) → slice_get (routines c.code) r ≡ Some routine → Left c words (c.entry r)
      (entry_form c r routine) (c.site r 0)
  -- first words are within the words
  pub within : (r k : ℕ) (routine : TacRoutine) → slice_get (routines c.code) r ≡ Some routine → k < length routine.body
      → c.site r k ≤ MAX_COUNT
  pub within_entry : (r : ℕ) → r < length (routines c.code) → c.entry r ≤ MAX_COUNT
  -- after each call the result is accepted
  pub resumes : (r k t : ℕ) → called c r k t ≡ true → Left c words (c.resume r k t) (accept c r (home c r t))
      (c.site r k)
  -- a run-time routine's parameters come before its link
  pub parameters : (r : ℕ) (routine : TacRoutine) → is_program c r ≡ false → slice_get (routines c.code) r
      ≡ Some routine → 8 + 4 * routine.parameters ≤ c.link_at r
  -- the words of the constants
  pub texts : (r k : ℕ) (ws : Words) → constant_at (text_at c.code r k) ≡ Some ws
      → (c.constant r k + length ws ≤ length words)
      × ((i : ℕ) → (x : ℤ) → slice_get ws i ≡ Some (Some (Number x)) → slice_get words (c.constant r k + i) ≡ Some
      (word_of x))
  -- the program block's link, 0, is that of no call
  pub unlinked : c.line 0 ≡ None
  -- objects are charged for as they are allocated
  pub sizes : (t bytes : ℕ) → slice_get c.code.objects t ≡ Some bytes → (bytes % 4 ≡ 0) × (c.sizes t % 4 ≡ 0)
      × (bytes ≤ c.sizes t) × (4 ≤ c.sizes t) × (c.sizes t < 4294967296)

-- all that is known of a program from its code to its words
pub record Built (c : Context) (words : List ℕ) : Type 0 where
  pub sound : IsSound c.code
  pub laid : IsLaid c
  pub placed : IsPlaced c
  pub stood : Stood c words

-- ---- states

abbrev pub tape_of : Tape → run.Tape
tape_of tape = record { input = tape.input; ended = tape.ended; transcript = tape.transcript }

-- N and Z are those of the register of the temporary that they belong to at a place
abbrev pub Flags : Context → ℕ → ℕ → View → Type 0
Flags c r k v =
    (t q : ℕ) → flagged_at c r k ≡ Some t → home c r t ≡ Reg q
    → (v.equal ≡ nat_eq (v.registers q) 0) × (v.negative ≡ nat_le SIGN_BIT (v.registers q))

-- and no register is short of an offset
abbrev pub Straight : Context → ℕ → ℕ → View → Type 0
Straight c r k v = Flags c r k v × (deferred_at c r k ≡ None)

-- the machine with the missing offset added to the register that is short of it
abbrev pub with_deferred : Option (ℕ × ℤ) → Machine → Machine
with_deferred None m = m
with_deferred (Some deferred) m =
    record { registers = update deferred.0 (reached (m.registers deferred.0) deferred.1) m.registers; words = m.words }

-- a view, at the words of an instruction, meets a state
pub record Meets (c : Context) (words : List ℕ) (p : Places) (s : State) (v : View) (f : ℕ) : Type 0 where
  pub related : Related c p s (with_deferred (deferred_at c s.current.routine s.current.place) (machine_of v)) f
  pub place : v.place ≡ c.site s.current.routine s.current.place
  pub input : AreBytes s.tape.input
  pub flags : Flags c s.current.routine s.current.place v

-- and belongs to it, if no register is short of an offset
pub record Belongs (c : Context) (words : List ℕ) (p : Places) (s : State) (v : View) (f : ℕ) : Type 0 where
  pub related : Related c p s (machine_of v) f
  pub place : v.place ≡ c.site s.current.routine s.current.place
  pub input : AreBytes s.tape.input
  pub flags : Straight c s.current.routine s.current.place v

-- from m, with the tape of s, the machine reaches in one step or more a state that belongs to t
pub record Comes (c : Context) (words : List ℕ) (s t : State) (m : machine.State) : Type 0 where
  pub to : machine.State
  pub places : Places
  pub view : View
  pub frame : ℕ
  pub shows : Shows words c.size to view
  pub meets : Meets c words places t view frame
  pub runs : (k : ℕ) → (j : ℕ) × (k < j) × (run.exec j m (tape_of s.tape) ≡ run.exec k to (tape_of t.tape))

-- the ending of a stop with a word: the row of its link, and the lines that the walk over the frames finds
abbrev pub trapped : Option (ℕ × ℕ) → List ℕ → Ending
trapped None calls = Fault UnknownTrap
trapped (Some row) calls = ending_by row.0 row.1 calls

abbrev pub told : Context → ℕ → View → Ending
told c zero v = Normal
told c (suc n) v = trapped (c.trap (suc n)) (walk c.line c.size 16 v.words (v.registers 14))

-- it stops, with an ending
pub record Stops (c : Context) (words : List ℕ) (s : State) (m : machine.State) (e : Ending) : Type 0 where
  pub word : ℕ
  pub at : machine.State
  pub view : View
  pub shows : Shows words c.size at view
  pub is : e ≡ told c word view
  pub by : (k : ℕ) → (j : ℕ) × (k < j) × (run.exec j m (tape_of s.tape) ≡ (s.tape.transcript, run.Stopped word at))

-- What the machine does for a step: nothing is required if the code is stuck.
abbrev pub Follows : Context → List ℕ → Step → State → machine.State → Type 0
Follows c words (Goes t) s m = Comes c words s t m
Follows c words (Over e) s m = (e ≡ Stuck) ⊎ Stops c words s m e
