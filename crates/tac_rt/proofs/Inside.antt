-- A run-time routine, from its call to its return.
use Rattle.std.proofs.Common.{◌≡◌, ℕ, suc, ◌+◌, ◌-◌, ◌*◌, ◌<◌, ◌-ℤ◌, ℤ, pos, negsuc, Bool, true, false, not, ◌&&◌}
use Rattle.std.proofs.Common.{nat_eq, nat_lt, if◌then◌else◌, List, [], ◌∷◌, ◌++◌, length, slice_get, Some, refl, sym}
use Rattle.std.proofs.Common.{ap, ◌∙◌, subst, arith}
use Rattle.std.proofs.lemmas.Int.{ints}
use Rattle.std.proofs.lemmas.Bool.{ltb-true, lt-ltb, le-ltb}
use Rattle.behavior.specs.Transcripts.{mark}
use Rattle.behavior.specs.Endings.{Stack, Stuck}
use Rattle.tac_code.specs.declared.code.Block.{Block}
use Rattle.tac_code.specs.declared.code.Value.{Value}
use Rattle.tac_code.specs.declared.code.Value.TheVariants.{Number, Address}
use Rattle.tac_code.specs.declared.code.Operand.{Operand}
use Rattle.tac_code.specs.declared.code.Operand.TheVariants as operand
use Rattle.tac_code.specs.declared.code.Base.TheVariants as base
use Rattle.tac_code.specs.declared.code.Operator.{Operator}
use Rattle.tac_code.specs.declared.code.BitOperator.{BitOperator}
use Rattle.tac_code.specs.declared.code.BitOperator.TheVariants.{Plus}
use Rattle.tac_code.specs.declared.code.Relation.{Relation}
use Rattle.tac_code.specs.declared.code.Instruction.TheVariants.{Literal, Copy, Arithmetic, Bits, Compare, Offset}
use Rattle.tac_code.specs.declared.code.Instruction.TheVariants.{Index, Load, Store, LoadByte, StoreByte, Jump}
use Rattle.tac_code.specs.declared.code.Instruction.TheVariants.{JumpBack, Branch, BranchBack, Call, Return, Take, Put}
use Rattle.tac_code.specs.declared.code.TacRoutine.{TacRoutine}
use Rattle.tac_code.specs.Numbers.{truth, computed, Gives, bits, is_in_range, natural, steps_above}
use Rattle.tac_code.specs.Memory.{Words, Memory, load, load_byte, store, store_byte, with_word, with_byte_at}
use Rattle.tac_code.specs.Meaning.{Temporaries, put, Tape, State, Step, Goes, Over, routines, body_at, fetch, text_at}
use Rattle.tac_code.specs.Meaning.{onward, giving, with_some, values_of, operand_value, related, gives, gives_address}
use Rattle.tac_code.specs.Meaning.{gives_component, gives_computed, told, end_taken, takes, unwritten, open_bytes}
use Rattle.tac_code.specs.Meaning.{entered, enter}
use Rattle.tac_code.specs.declared.code.TheConstants.{BLOCK_LIMIT, NUMBER_LIMIT}
use Rattle.tac_code.proofs.Items.{get_right}
use Rattle.tac_code_steps.specs.Runs.{Machine, step_of, Comes}
use Rattle.tac_code_steps.specs.Routines.{Does}
use Rattle.tac_code_steps.proofs.Runs.{a_step}
use Rattle.tac_code_steps.proofs.Instructions.{At, literal_step, copy_step, arithmetic_step, bits_step, compare_step}
use Rattle.tac_code_steps.proofs.Instructions.{offset_step, index_step, load_step, load_byte_step, store_step}
use Rattle.tac_code_steps.proofs.Instructions.{store_byte_step, jump_step, jump_back_step, branch_step}
use Rattle.tac_code_steps.proofs.Instructions.{branch_back_step, take_step, put_step, call_step, return_step}
use Rattle.tac_rt.specs.Bodies.{run_time_routines}
use Rattle.tac_rt.specs.Calls.{HasRoutines}
use Rattle.tac_rt.proofs.Arithmetic.{counted_down}
use Rattle.tac_rt.proofs.Blocks.{IsFresh, pushed, load_pushed, load_byte_pushed, stored}

pub not_below : (n k : ℕ) → nat_lt (n + k) n ≡ false
not_below n k = go (nat_lt (n + k) n) refl
  where
    go : (t : Bool) → nat_lt (n + k) n ≡ t → t ≡ false
    go true e = let l = ltb-true (n + k) n e in absurd (omega (arith, l))
    go false e = refl

-- a set's words are numbered from 0 to 7
in_set : (q : ℕ) → q < 8 → is_in_range (pos 0) (pos 7) (pos q) ≡ true
in_set q l = ap (λ b. not b && not (nat_lt 7 q)) (le-ltb q 0 (omega arith)) ∙ ap (λ b. not false && not b)
    (le-ltb 7 q (omega arith))

above_zero : (q : ℕ) → steps_above (pos 0) (pos q) ≡ q
above_zero q = let e : pos q -ℤ pos 0 ≡ pos q = omega (arith, ints) in ap natural e

-- the caller after its call, with a result in a temporary
abbrev pub back : State → (to : ℕ) → Value → Memory → Tape → State
back s to v memory tape = record s {
  current = giving to v s.current;
  memory = memory;
  tape = tape;
  count = suc s.count;
}

-- In this state a call of the routine of this number with these values gives v, and leaves this memory and this tape.
pub record Called (m : Machine) (s : State) (number : ℕ) (values : List Value) (v : Value) (memory : Memory)
    (tape : Tape) : Type 0 where
  pub by : (to line : ℕ) (operands : List ℕ) → At m s (Call to (length m.code.program + number) operands line)
      → values_of s.current.temporaries operands ≡ Some values → Comes m s (back s to v memory tape)

-- so it does in each state with this memory and this tape
pub does_so : (m : Machine) (number : ℕ) (values : List Value) (before : Memory) (tape : Tape) (v : Value)
    (after : Memory) (tape' : Tape) → ((s : State) → IsFresh s.count before → Called m
    (record s { memory = before; tape = tape }) number values v after tape')
    → Does m number values before tape v after tape'
does_so m number values before tape v after tape' called = record {
  by = λ s to line operands same_memory same_tape fresh e at.
      let f : IsFresh s.count before = subst (IsFresh s.count) same_memory (record {
        frames = fresh.0;
        scratch = fresh.1;
      }) in
      let c : Comes m (record s { memory = before; tape = tape }) (back s to v after tape') = (called s f).by to
      line operands at e in
      let c' : Comes m (record s { tape = tape }) (back s to v after tape') = subst
      (λ x. Comes m (record s { memory = x; tape = tape }) (back s to v after tape')) (sym same_memory) c in
      subst (λ x. Comes m (record s { tape = x }) (back s to v after tape')) (sym same_tape) c';
}

-- where a run-time routine is that was called in state s
module _ (s : State) (r to line : ℕ) where
  abbrev pub inside : ℕ → Temporaries → Memory → Tape → State
  inside pc temporaries memory tape = record {
    current = record {
      routine = r;
      place = pc;
      number = s.count;
      temporaries = temporaries;
      result = to;
      line = line;
    };
    callers = onward s.current ∷ s.callers;
    memory = pushed s.count memory;
    count = suc s.count;
    heap = s.heap;
    tape = tape;
  }

module _ (m : Machine) (s : State) (k : ℕ) (routine : TacRoutine) (has : HasRoutines m)
    (here : slice_get run_time_routines k ≡ Some routine) where
  abbrev number : ℕ
  number = length m.code.program + k

  routine_here : slice_get (routines m.code) number ≡ Some routine
  routine_here = get_right m.code.program m.code.run_time k ∙ ap (λ rs. slice_get rs k) has ∙ here

  pub at : (pc : ℕ) → fetch m.code number pc ≡ slice_get routine.body pc
  at pc = ap (λ o. body_at o pc) routine_here

  module _ (to line : ℕ) where
    -- the routine at a place
    abbrev pub here_at : ℕ → Temporaries → Memory → Tape → State
    here_at = inside s number to line

    pub enters : (operands : List ℕ) (values : List Value) → At m s (Call to number operands line)
        → values_of s.current.temporaries operands ≡ Some values → nat_eq (length values) routine.parameters ≡ true
        → routine.frame ≡ 0 → routine.scratch ≡ 0 → step_of m s ≡ Goes
        (here_at 0 (λ t. slice_get values t) s.memory s.tape)
    enters operands values h e count frame scratch =
        call_step m s to number operands line h
        ∙ ap (λ o. with_some o (λ values. enter m.code m.frames m.objects m.stack m.heap number values to line
        (onward s.current ∷ s.callers) s)) e
        ∙ ap (λ o. with_some o (λ routine. go (not (nat_eq (length values) routine.parameters)) routine)) routine_here
        ∙ ap (λ b. go (not b) routine) count
        ∙ ap (λ b. if b && past then Over (Stack routine.line) else goes routine) (not_below (length m.code.program) k)
        ∙ ap (λ f. Goes (with_blocks (unwritten f) (unwritten routine.scratch))) frame
        ∙ ap (λ f. Goes (with_blocks [] (unwritten f))) scratch
      where
        past : Bool
        past = nat_lt m.stack (m.frames number + open_bytes m.code m.frames (onward s.current ∷ s.callers))

        goes : TacRoutine → Step
        goes routine = Goes (entered m.code m.frames m.objects m.stack m.heap routine number values to line
            (onward s.current ∷ s.callers) s)

        go : Bool → TacRoutine → Step
        go a routine = if a then Over Stuck else (if nat_lt number (length m.code.program) && past then Over
            (Stack routine.line) else goes routine)

        with_blocks : Words → Words → State
        with_blocks f x = record s {
          current = record {
            routine = number;
            place = 0;
            number = s.count;
            temporaries = λ t. slice_get values t;
            result = to;
            line = line;
          };
          callers = onward s.current ∷ s.callers;
          memory = record s.memory {
            frames = record {
              number = s.count;
              words = f;
            } ∷ s.memory.frames;
            scratch = record {
              number = s.count;
              words = x;
            } ∷ s.memory.scratch;
          };
          count = suc s.count;
        }

    pub returns : (pc : ℕ) (temporaries : Temporaries) (memory : Memory) (tape : Tape) (a : ℕ) (v : Value)
        → slice_get routine.body pc ≡ Some (Return a) → temporaries a ≡ Some v → step_of m
        (here_at pc temporaries memory tape) ≡ Goes (back s to v memory tape)
    returns pc temporaries memory tape a v i e = return_step m (here_at pc temporaries memory tape) a v (at pc ∙ i) e

    module _ (pc : ℕ) (temporaries : Temporaries) (memory : Memory) (tape : Tape) where
      abbrev now : State
      now = here_at pc temporaries memory tape

      pub literal : (t : ℕ) (z : ℤ) → slice_get routine.body pc ≡ Some (Literal t z) → Comes m now
          (here_at (suc pc) (put temporaries t (Number z)) memory tape)
      literal t z i = a_step now _ (literal_step m now t z (at pc ∙ i))

      pub copies : (t a : ℕ) (v : Value) → slice_get routine.body pc ≡ Some (Copy t a) → temporaries a ≡ Some v
          → Comes m now (here_at (suc pc) (put temporaries t v) memory tape)
      copies t a v i e = a_step now _ (copy_step m now t a v (at pc ∙ i) e)

      -- the number that an operator gives, which is in range
      pub computes : (operator : Operator) (t a : ℕ) (b : Operand) (x y z : ℤ) → slice_get routine.body pc ≡ Some
          (Arithmetic operator t a b 0 1) → temporaries a ≡ Some (Number x) → operand_value temporaries b ≡ Some
          (Number y) → computed operator 0 x y ≡ Gives z → Comes m now
          (here_at (suc pc) (put temporaries t (Number z)) memory tape)
      computes operator t a b x y z i e f g = a_step now _
          (arithmetic_step m now operator t a b 0 1 x y (at pc ∙ i) e f ∙ ap (λ c. gives_computed m.code t c 1 now) g)

      pub joins : (operator : BitOperator) (t a : ℕ) (b : Operand) (x y : ℤ) → slice_get routine.body pc ≡ Some
          (Bits operator t a b) → temporaries a ≡ Some (Number x) → operand_value temporaries b ≡ Some (Number y)
          → Comes m now (here_at (suc pc) (put temporaries t (Number (bits operator x y))) memory tape)
      joins operator t a b x y i e f = a_step now _ (bits_step m now operator t a b x y (at pc ∙ i) e f)

      -- a number counted down
      pub counts : (t w n k : ℕ) → slice_get routine.body pc ≡ Some (Bits Plus t t (operand.Number (negsuc k)))
          → temporaries t ≡ Some (Number (pos w)) → w ≡ n + suc k → w < NUMBER_LIMIT → Comes m now
          (here_at (suc pc) (put temporaries t (Number (pos n))) memory tape)
      counts t w n k i e f l = subst (λ z. Comes m now (here_at (suc pc) (put temporaries t (Number z)) memory tape))
          (counted_down w n k f l) (joins Plus t t (operand.Number (negsuc k)) (pos w) (negsuc k) i e refl)

      pub compares : (relation : Relation) (t a : ℕ) (b : Operand) (holds : Bool) → slice_get routine.body pc ≡ Some
          (Compare relation t a b) → related relation (temporaries a) (operand_value temporaries b) ≡ Some holds
          → Comes m now (here_at (suc pc) (put temporaries t (Number (truth holds))) memory tape)
      compares relation t a b holds i e = a_step now _ (compare_step m now relation t a b holds (at pc ∙ i) e)

      pub offsets : (t a n : ℕ) (block : Block) (offset : ℕ) → slice_get routine.body pc ≡ Some
          (Offset t (base.Temporary a) n 0) → temporaries a ≡ Some (Address block offset) → offset + n < BLOCK_LIMIT
          → Comes m now (here_at (suc pc) (put temporaries t (Address block (offset + n))) memory tape)
      offsets t a n block offset i e l = a_step now _
          (offset_step m now t (base.Temporary a) n 0 block offset (at pc ∙ i) e (lt-ltb (offset + n) BLOCK_LIMIT l))

      pub loads : (t a n : ℕ) (block : Block) (offset : ℕ) (v : Value) → slice_get routine.body pc ≡ Some
          (Load t (base.Temporary a) n) → temporaries a ≡ Some (Address block offset) → IsFresh s.count memory → load
          (text_at m.code) memory block (offset + n) ≡ Some v → Comes m now
          (here_at (suc pc) (put temporaries t v) memory tape)
      loads t a n block offset v i e f l = a_step now _
          (load_step m now t (base.Temporary a) n block offset v (at pc ∙ i) e
          (load_pushed (text_at m.code) s.count memory block (offset + n) v f l))

      pub loads_byte : (t a n : ℕ) (block : Block) (offset byte : ℕ) → slice_get routine.body pc ≡ Some
          (LoadByte t (base.Temporary a) n) → temporaries a ≡ Some (Address block offset) → IsFresh s.count memory
          → load_byte (text_at m.code) memory block (offset + n) ≡ Some byte → Comes m now
          (here_at (suc pc) (put temporaries t (Number (pos byte))) memory tape)
      loads_byte t a n block offset byte i e f l = a_step now _
          (load_byte_step m now t (base.Temporary a) n block offset byte (at pc ∙ i) e
          (load_byte_pushed (text_at m.code) s.count memory block (offset + n) byte f l))

      pub stores_word : (a n b : ℕ) (block : Block) (offset : ℕ) (v : Value) (memory' : Memory)
          → slice_get routine.body pc ≡ Some (Store (base.Temporary a) n b) → temporaries a ≡ Some
          (Address block offset) → temporaries b ≡ Some v → IsFresh s.count memory → store memory block (offset + n) v
          ≡ Some memory' → Comes m now (here_at (suc pc) temporaries memory' tape)
      stores_word a n b block offset v memory' i e g f w = a_step now _
          (store_step m now (base.Temporary a) n b block offset v (pushed s.count memory') (at pc ∙ i) e g
          (stored s.count memory (λ words. with_word words (offset + n) v) memory' f block w).same)

      pub stores_byte : (a n b : ℕ) (block : Block) (offset byte : ℕ) (memory' : Memory) → slice_get routine.body pc
          ≡ Some (StoreByte (base.Temporary a) n b) → temporaries a ≡ Some (Address block offset) → temporaries b ≡ Some
          (Number (pos byte)) → byte < 256 → IsFresh s.count memory → store_byte memory block (offset + n) byte
          ≡ Some memory' → Comes m now (here_at (suc pc) temporaries memory' tape)
      stores_byte a n b block offset byte memory' i e g l f w = a_step now _
          (store_byte_step m now (base.Temporary a) n b block offset byte (pushed s.count memory') (at pc ∙ i) e g
          (lt-ltb byte 256 l) (stored s.count memory
          (λ words. with_byte_at words (offset + n) byte) memory' f block w).same)

      -- the address of one of a set's eight words
      pub indexes : (t a i : ℕ) (block : Block) (offset q : ℕ) → slice_get routine.body pc ≡ Some
          (Index t (base.Temporary a) i (pos 0) (pos 7) 4 0 1) → temporaries a ≡ Some (Address block offset)
          → temporaries i ≡ Some (Number (pos q)) → q < 8 → offset + 32 < BLOCK_LIMIT → Comes m now
          (here_at (suc pc) (put temporaries t (Address block (offset + q * 4))) memory tape)
      indexes t a i block offset q f e g l h =
          a_step now _
          (index_step m now t (base.Temporary a) i (pos 0) (pos 7) 4 0 1 block offset (pos q) (at pc ∙ f) e g
          ∙ ap (λ b. gives_component m.code b t block (offset + steps_above (pos 0) (pos q) * 4) 0 1 now) (in_set q l)
          ∙ ap (λ k. gives_address t block (offset + k * 4) now) (above_zero q)
          ∙ ap (λ b. if b then gives t (Address block (offset + q * 4)) now else Over Stuck)
          (lt-ltb (offset + q * 4) BLOCK_LIMIT (omega arith)))

      pub jumps : (n : ℕ) → slice_get routine.body pc ≡ Some (Jump n) → Comes m now
          (here_at (suc pc + n) temporaries memory tape)
      jumps n i = a_step now _ (jump_step m now n (at pc ∙ i))

      pub jumps_back : (n : ℕ) → slice_get routine.body pc ≡ Some (JumpBack n) → Comes m now
          (here_at (pc - n) temporaries memory tape)
      jumps_back n i = a_step now _ (jump_back_step m now n (at pc ∙ i))

      -- a branch that is taken, or not
      pub branches : (relation : Relation) (a : ℕ) (b : Operand) (n : ℕ) → slice_get routine.body pc ≡ Some
          (Branch relation a b n) → related relation (temporaries a) (operand_value temporaries b) ≡ Some true
          → Comes m now (here_at (suc pc + n) temporaries memory tape)
      branches relation a b n i e = a_step now _ (branch_step m now relation a b n true (at pc ∙ i) e)

      pub passes : (relation : Relation) (a : ℕ) (b : Operand) (n : ℕ) → slice_get routine.body pc ≡ Some
          (Branch relation a b n) → related relation (temporaries a) (operand_value temporaries b) ≡ Some false
          → Comes m now (here_at (suc pc) temporaries memory tape)
      passes relation a b n i e = a_step now _ (branch_step m now relation a b n false (at pc ∙ i) e)

      pub branches_back : (relation : Relation) (a : ℕ) (b : Operand) (n : ℕ) → slice_get routine.body pc ≡ Some
          (BranchBack relation a b n) → related relation (temporaries a) (operand_value temporaries b) ≡ Some true
          → Comes m now (here_at (pc - n) temporaries memory tape)
      branches_back relation a b n i e = a_step now _ (branch_back_step m now relation a b n true (at pc ∙ i) e)

      pub passes_back : (relation : Relation) (a : ℕ) (b : Operand) (n : ℕ) → slice_get routine.body pc ≡ Some
          (BranchBack relation a b n) → related relation (temporaries a) (operand_value temporaries b) ≡ Some false
          → Comes m now (here_at (suc pc) temporaries memory tape)
      passes_back relation a b n i e = a_step now _ (branch_back_step m now relation a b n false (at pc ∙ i) e)

      pub writes : (a byte : ℕ) → slice_get routine.body pc ≡ Some (Put a) → temporaries a ≡ Some (Number (pos byte))
          → byte < 256 → Comes m now (here_at (suc pc) temporaries memory (told byte tape))
      writes a byte i e l = a_step now _ (put_step m now a byte (at pc ∙ i) e (lt-ltb byte 256 l))

      pub takes_byte : (t b : ℕ) (rest : List ℕ) → slice_get routine.body pc ≡ Some (Take t) → tape.input ≡ b ∷ rest
          → Comes m now (here_at (suc pc) (put temporaries t (Number (pos b))) memory (record {
            input = rest;
            ended = tape.ended;
            transcript = tape.transcript ++ mark ∷ [];
          }))
      takes_byte t b rest i e = a_step now _ (take_step m now t (at pc ∙ i) ∙ ap (λ l. takes t l now) e)

      pub takes_end : (t : ℕ) → slice_get routine.body pc ≡ Some (Take t) → tape.input ≡ [] → Comes m now
          (here_at (suc pc) (put temporaries t (Number (negsuc 0))) memory (end_taken tape.ended tape))
      takes_end t i e = a_step now _ (take_step m now t (at pc ∙ i) ∙ ap (λ l. takes t l now) e)
