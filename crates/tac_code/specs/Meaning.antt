-- What three-address code does, one instruction after another.
use Rattle.std.specs.Prelude.{ℕ, suc, ◌+◌, ◌-◌, ◌*◌, ◌/◌, Bool, true, false, ◌&&◌, not, nat_eq, nat_lt, if◌then◌else◌}
use Rattle.std.specs.Prelude.{List, [], ◌∷◌, ◌++◌, length, replicate, slice_get, Option, Some, None, ℤ, pos, negsuc}
use Rattle.behavior.specs.Endings.{Ending, Normal, Stack, Heap, Stuck, ending_by}
use Rattle.behavior.specs.Transcripts.{mark}
use Rattle.tac_code.specs.declared.code.TheConstants.{BLOCK_LIMIT}
use Rattle.tac_code.specs.declared.code.Block.{Block}
use Rattle.tac_code.specs.declared.code.Block.TheVariants.{Frame, Scratch, Object, Constant}
use Rattle.tac_code.specs.declared.code.Value.{Value}
use Rattle.tac_code.specs.declared.code.Value.TheVariants.{Number, Address, Routine}
use Rattle.tac_code.specs.declared.code.Operand.{Operand}
use Rattle.tac_code.specs.declared.code.Operand.TheVariants as operand
use Rattle.tac_code.specs.declared.code.Base.{Base}
use Rattle.tac_code.specs.declared.code.Base.TheVariants as base
use Rattle.tac_code.specs.declared.code.Relation.{Relation}
use Rattle.tac_code.specs.declared.code.Relation.TheVariants.{Equal, NotEqual}
use Rattle.tac_code.specs.declared.code.Instruction.{Instruction}
use Rattle.tac_code.specs.declared.code.Instruction.TheVariants.{Literal, Copy, Arithmetic, Bits, Compare, CheckRange}
use Rattle.tac_code.specs.declared.code.Instruction.TheVariants.{CheckPointer, Text, Offset, Index, RoutineValue, Load}
use Rattle.tac_code.specs.declared.code.Instruction.TheVariants.{Store, LoadByte, StoreByte, Jump, JumpBack, Branch}
use Rattle.tac_code.specs.declared.code.Instruction.TheVariants.{BranchBack, Call, CallValue, Return, Trap, Take, Put}
use Rattle.tac_code.specs.declared.code.Instruction.TheVariants.{New, End}
use Rattle.tac_code.specs.declared.code.TacRoutine.{TacRoutine}
use Rattle.tac_code.specs.Numbers.{is_zero, truth, Computed, Gives, Fails, computed, bits, compared, is_in_range}
use Rattle.tac_code.specs.Numbers.{steps_above}
use Rattle.tac_code.specs.Memory.{Words, Living, Memory, load, load_byte, store, store_byte}

-- The parts of the code. Routines are numbered through both lists, the program's first; routine 0 is the program block.
pub record Code : Type 0 where
  pub program : List TacRoutine
  pub run_time : List TacRoutine
  pub objects : List ℕ

abbrev pub routines : Code → List TacRoutine
routines code = code.program ++ code.run_time

abbrev pub body_at : Option TacRoutine → ℕ → Option Instruction
body_at None place = None
body_at (Some routine) place = slice_get routine.body place

-- the instruction at a place of a routine; none past its end
abbrev pub fetch : Code → ℕ → ℕ → Option Instruction
fetch code r place = body_at (slice_get (routines code) r) place

abbrev pub text_of : Option Instruction → Option (List ℕ)
text_of (Some (Text t bytes)) = Some bytes
text_of _ = None

-- the bytes of a constant, which is named by the place of its instruction
abbrev pub text_at : Code → ℕ → ℕ → Option (List ℕ)
text_at code r place = text_of (fetch code r place)

-- the bytes of a routine's blocks, and 4 for each temporary
abbrev pub size : TacRoutine → ℕ
size routine = routine.frame + routine.scratch + 4 * routine.temporaries

-- ---- states

-- what each temporary holds
abbrev pub Temporaries : Type 0
Temporaries = ℕ → Option Value

abbrev pub put : Temporaries → ℕ → Value → Temporaries
put temporaries t v u = if nat_eq u t then Some v else temporaries u

-- An open activation: the place of its next instruction, the number that names its blocks, the temporary of its caller
-- that takes its result, and the line of the call.
pub record Activation : Type 0 where
  pub routine : ℕ
  pub place : ℕ
  pub number : ℕ
  pub temporaries : Temporaries
  pub result : ℕ
  pub line : ℕ

-- the input left, whether its end was taken, and the transcript so far
pub record Tape : Type 0 where
  pub input : List ℕ
  pub ended : Bool
  pub transcript : List ℕ

-- The innermost activation, its callers (innermost first), the memory, the number of activations so far, and the bytes
-- of all objects made.
pub record State : Type 0 where
  pub current : Activation
  pub callers : List Activation
  pub memory : Memory
  pub count : ℕ
  pub heap : ℕ
  pub tape : Tape

-- where an instruction leads
pub data Step : Type 0 where
  Goes : State → Step
  Over : Ending → Step

-- ---- operands: without a value of the kind required, the run is stuck

abbrev pub with_some : {A : Type 0} → Option A → (A → Step) → Step
with_some None go = Over Stuck
with_some (Some x) go = go x

abbrev pub with_number : Option Value → (ℤ → Step) → Step
with_number None go = Over Stuck
with_number (Some (Number z)) go = go z
with_number (Some (Address block offset)) go = Over Stuck
with_number (Some (Routine r)) go = Over Stuck

abbrev pub with_address : Option Value → (Block → ℕ → Step) → Step
with_address None go = Over Stuck
with_address (Some (Number z)) go = Over Stuck
with_address (Some (Address block offset)) go = go block offset
with_address (Some (Routine r)) go = Over Stuck

abbrev pub with_routine : Option Value → (ℕ → Step) → Step
with_routine None go = Over Stuck
with_routine (Some (Number z)) go = Over Stuck
with_routine (Some (Address block offset)) go = Over Stuck
with_routine (Some (Routine r)) go = go r

-- 0 to 255
abbrev pub with_byte_value : ℤ → (ℕ → Step) → Step
with_byte_value (pos n) go = if nat_lt n 256 then go n else Over Stuck
with_byte_value (negsuc n) go = Over Stuck

-- a pointer: nil, or the object that it points to
abbrev pub object_of : Block → ℕ → Option (Option ℕ)
object_of (Frame a) offset = None
object_of (Scratch a) offset = None
object_of (Object n) offset = if nat_eq offset 0 then Some (Some n) else None
object_of (Constant r place) offset = None

abbrev pub pointer_of : Option Value → Option (Option ℕ)
pointer_of None = None
pointer_of (Some (Number z)) = if is_zero z then Some None else None
pointer_of (Some (Address block offset)) = object_of block offset
pointer_of (Some (Routine r)) = None

abbrev pub same_pointer : Option ℕ → Option ℕ → Bool
same_pointer None None = true
same_pointer None (Some n) = false
same_pointer (Some m) None = false
same_pointer (Some m) (Some n) = nat_eq m n

abbrev pub is_nil : Option ℕ → Bool
is_nil None = true
is_nil (Some n) = false

-- whether a relation holds between two pointers; only equality and inequality are defined for pointers
abbrev pub pointers_related : Relation → Option (Option ℕ) → Option (Option ℕ) → Option Bool
pointers_related Equal (Some p) (Some q) = Some (same_pointer p q)
pointers_related NotEqual (Some p) (Some q) = Some (not (same_pointer p q))
pointers_related _ _ _ = None

-- whether a relation holds between two numbers, or between two pointers
abbrev pub related : Relation → Option Value → Option Value → Option Bool
related relation (Some (Number x)) (Some (Number y)) = Some (compared relation x y)
related relation v w = pointers_related relation (pointer_of v) (pointer_of w)

-- what a right operand is
abbrev pub operand_value : Temporaries → Operand → Option Value
operand_value temporaries (operand.Temporary t) = temporaries t
operand_value temporaries (operand.Number z) = Some (Number z)

-- The address that a base means. The program block is the first activation.
abbrev pub base_value : Activation → Base → Option Value
base_value a base.Frame = Some (Address (Frame a.number) 0)
base_value a base.Scratch = Some (Address (Scratch a.number) 0)
base_value a base.Program = Some (Address (Frame 0) 0)
base_value a (base.Temporary t) = a.temporaries t

abbrev pub and_more : Option Value → Option (List Value) → Option (List Value)
and_more None rest = None
and_more (Some v) None = None
and_more (Some v) (Some vs) = Some (v ∷ vs)

-- what a call passes
abbrev pub values_of : Temporaries → List ℕ → Option (List Value)
values_of temporaries [] = Some []
values_of temporaries (t ∷ ts) = and_more (temporaries t) (values_of temporaries ts)

-- ---- steps that go on

-- on to the next instruction
abbrev pub onward : Activation → Activation
onward a = record a { place = suc a.place }

-- the same, with a temporary written
abbrev pub giving : ℕ → Value → Activation → Activation
giving t v a = record a { place = suc a.place; temporaries = put a.temporaries t v }

abbrev pub goes_on : State → Step
goes_on s = Goes (record s { current = onward s.current })

abbrev pub goes_to : ℕ → State → Step
goes_to place s = Goes (record s { current = record s.current { place = place } })

abbrev pub gives : ℕ → Value → State → Step
gives t v s = Goes (record s { current = giving t v s.current })

abbrev pub stores : Memory → State → Step
stores m s = Goes (record s { current = onward s.current; memory = m })

abbrev pub gives_address : ℕ → Block → ℕ → State → Step
gives_address t block offset s =
    if nat_lt offset BLOCK_LIMIT then gives t (Address block offset) s else Over Stuck

-- ---- input and output

abbrev pub told : ℕ → Tape → Tape
told n tape = record tape { transcript = tape.transcript ++ n ∷ [] }

-- only the first taking of the end is marked
abbrev pub end_taken : Bool → Tape → Tape
end_taken true tape = tape
end_taken false tape = record { input = []; ended = true; transcript = tape.transcript ++ mark ∷ [] }

abbrev pub takes : ℕ → List ℕ → State → Step
takes t [] s =
    Goes (record s { current = giving t (Number (negsuc 0)) s.current; tape = end_taken s.tape.ended s.tape })
takes t (b ∷ rest) s =
    Goes (record s {
      current = giving t (Number (pos b)) s.current;
      tape = record {
        input = rest;
        ended = s.tape.ended;
        transcript = s.tape.transcript ++ mark ∷ [];
      };
    })

abbrev pub puts : ℕ → State → Step
puts byte s = Goes (record s { current = onward s.current; tape = told byte s.tape })

-- ---- calls

abbrev pub unwritten : ℕ → Words
unwritten bytes = replicate (bytes / 4) None

abbrev pub without_first : List Living → List Living
without_first [] = []
without_first (b ∷ bs) = bs

-- back to the caller, with a result
abbrev pub leave : Value → List Activation → State → Step
leave v [] s = Over Stuck
leave v (c ∷ cs) s =
    Goes (record s {
      current = record c { temporaries = put c.temporaries s.current.result v };
      callers = cs;
      memory =
          record s.memory { frames = without_first s.memory.frames; scratch = without_first s.memory.scratch };
    })

-- The lines of the open calls, innermost first. The program block was not called, and calls of run-time routines don't
-- count.
abbrev pub open_calls : ℕ → Activation → List Activation → List ℕ
open_calls program a [] = []
open_calls program a (c ∷ cs) =
    if nat_lt a.routine program then a.line ∷ open_calls program c cs else open_calls program c cs

-- ---- errors

-- The ending that an error's number means. A test with number 0 is one that can't fail: there is no rule for what it
-- does if it would.
abbrev pub test_ending : (number line : ℕ) → (calls : List ℕ) → Ending
test_ending number line calls = if nat_eq number 0 then Stuck else ending_by number line calls

module _ (code : Code) where
  -- the same, with the calls that are open
  abbrev pub fails : ℕ → ℕ → State → Step
  fails number line s = Over (test_ending number line (open_calls (length code.program) s.current s.callers))

  abbrev pub gives_computed : ℕ → Computed → ℕ → State → Step
  gives_computed t (Gives z) line s = gives t (Number z) s
  gives_computed t (Fails number) line s = fails number line s

  abbrev pub checks : Bool → ℕ → ℕ → State → Step
  checks true number line s = goes_on s
  checks false number line s = fails number line s

  -- the address of a component, whose index was found to be in its range or not
  abbrev pub gives_component : Bool → ℕ → Block → ℕ → ℕ → ℕ → State → Step
  gives_component true t block offset number line s = gives_address t block offset s
  gives_component false t block offset number line s = fails number line s

-- ---- costs

module _ (code : Code) (F : ℕ → ℕ) where
  -- The frame bytes of the open activations. Run-time routines count nothing.
  abbrev pub frame_cost : ℕ → ℕ
  frame_cost r = if nat_lt r (length code.program) then F r else 0

  abbrev pub open_bytes : List Activation → ℕ
  open_bytes [] = 0
  open_bytes (a ∷ rest) = frame_cost a.routine + open_bytes rest

module _ (code : Code) (F G : ℕ → ℕ) (S H : ℕ) where
  -- whether entering a routine would exceed the budget of the stack
  abbrev pub is_full : ℕ → List Activation → Bool
  is_full r callers = nat_lt r (length code.program) && nat_lt S (F r + open_bytes code F callers)

  abbrev pub entered : TacRoutine → ℕ → List Value → ℕ → ℕ → List Activation → State → State
  entered routine r values result line callers s =
      record s {
        current = record {
          routine = r;
          place = 0;
          number = s.count;
          temporaries = λ t. slice_get values t;
          result = result;
          line = line;
        };
        callers = callers;
        memory = record s.memory {
          frames = record {
            number = s.count;
            words = unwritten routine.frame;
          } ∷ s.memory.frames;
          scratch = record {
            number = s.count;
            words = unwritten routine.scratch;
          } ∷ s.memory.scratch;
        };
        count = suc s.count;
      }

  -- a new activation, whose parameters are in its first temporaries
  abbrev pub enter : ℕ → List Value → ℕ → ℕ → List Activation → State → Step
  enter r values result line callers s =
      with_some (slice_get (routines code) r) (λ routine.
      if not (nat_eq (length values) routine.parameters) then Over Stuck
      else if is_full r callers then Over (Stack routine.line)
      else Goes (entered routine r values result line callers s))

  abbrev pub calls : ℕ → ℕ → List ℕ → ℕ → State → Step
  calls t r operands line s =
      with_some (values_of s.current.temporaries operands)
      (λ values. enter r values t line (onward s.current ∷ s.callers) s)

  -- an object whose words are unwritten
  abbrev pub made : ℕ → ℕ → ℕ → State → State
  made t object_type bytes s =
      record s {
        current = giving t (Address (Object (length s.memory.objects)) 0) s.current;
        memory = record s.memory
            { objects = s.memory.objects ++ unwritten bytes ∷ [] };
        heap = s.heap + G object_type;
      }

  abbrev pub makes : ℕ → ℕ → ℕ → ℕ → State → Step
  makes t object_type bytes line s =
      if nat_lt H (s.heap + G object_type) then Over (Heap line) else Goes (made t object_type bytes s)

  -- One instruction; at a routine's end there is none. Only the program's own routines are called as values.
  abbrev pub act : Option Instruction → State → Step
  act None s = Over Stuck
  act (Some (Literal t z)) s = gives t (Number z) s
  act (Some (Copy t a)) s = with_some (s.current.temporaries a) (λ v. gives t v s)
  act (Some (Arithmetic operator t a b number line)) s =
      with_number (s.current.temporaries a) (λ x. with_number (operand_value s.current.temporaries b)
      (λ y. gives_computed code t (computed operator number x y) line s))
  act (Some (Bits operator t a b)) s =
      with_number (s.current.temporaries a) (λ x. with_number (operand_value s.current.temporaries b)
      (λ y. gives t (Number (bits operator x y)) s))
  act (Some (Compare relation t a b)) s =
      with_some (related relation (s.current.temporaries a) (operand_value s.current.temporaries b))
      (λ holds. gives t (Number (truth holds)) s)
  act (Some (CheckRange a low high number line)) s =
      with_number (s.current.temporaries a) (λ x. checks code (is_in_range low high x) number line s)
  act (Some (CheckPointer a number line)) s =
      with_some (pointer_of (s.current.temporaries a)) (λ p. checks code (not (is_nil p)) number line s)
  act (Some (Text t bytes)) s = gives t (Address (Constant s.current.routine s.current.place) 0) s
  act (Some (Offset t a n extent)) s =
      with_address (base_value s.current a) (λ block offset. gives_address t block (offset + n) s)
  act (Some (Index t a i low high width number line)) s =
      with_address (base_value s.current a) (λ block offset. with_number (s.current.temporaries i)
      (λ x. gives_component code (is_in_range low high x) t block
      (offset + steps_above low x * width) number line s))
  act (Some (RoutineValue t r)) s = gives t (Routine r) s
  act (Some (Load t a n)) s =
      with_address (base_value s.current a) (λ block offset. with_some (load (text_at code) s.memory block (offset + n))
      (λ v. gives t v s))
  act (Some (Store a n b)) s =
      with_address (base_value s.current a) (λ block offset. with_some (s.current.temporaries b)
      (λ v. with_some (store s.memory block (offset + n) v) (λ m. stores m s)))
  act (Some (LoadByte t a n)) s =
      with_address (base_value s.current a) (λ block offset. with_some
      (load_byte (text_at code) s.memory block (offset + n)) (λ byte. gives t (Number (pos byte)) s))
  act (Some (StoreByte a n b)) s =
      with_address (base_value s.current a) (λ block offset. with_number (s.current.temporaries b)
      (λ x. with_byte_value x (λ byte. with_some (store_byte s.memory block (offset + n) byte) (λ m. stores m s))))
  act (Some (Jump n)) s = goes_to (suc s.current.place + n) s
  act (Some (JumpBack n)) s = goes_to (s.current.place - n) s
  act (Some (Branch relation a b n)) s =
      with_some (related relation (s.current.temporaries a) (operand_value s.current.temporaries b))
      (λ holds. if holds then goes_to (suc s.current.place + n) s else goes_on s)
  act (Some (BranchBack relation a b n)) s =
      with_some (related relation (s.current.temporaries a) (operand_value s.current.temporaries b))
      (λ holds. if holds then goes_to (s.current.place - n) s else goes_on s)
  act (Some (Call t r operands line)) s = calls t r operands line s
  act (Some (CallValue t a operands line)) s = with_routine (s.current.temporaries a)
      (λ r. if nat_lt r (length code.program) then calls t r operands line s else Over Stuck)
  act (Some (Return a)) s = with_some (s.current.temporaries a) (λ v. leave v s.callers s)
  act (Some (Trap number line)) s = fails code number line s
  act (Some (Take t)) s = takes t s.tape.input s
  act (Some (Put a)) s = with_number (s.current.temporaries a) (λ x. with_byte_value x (λ byte. puts byte s))
  act (Some (New t object_type line)) s =
      with_some (slice_get code.objects object_type) (λ bytes. makes t object_type bytes line s)
  act (Some End) s = Over Normal

  abbrev pub step : State → Step
  step s = act (fetch code s.current.routine s.current.place) s
