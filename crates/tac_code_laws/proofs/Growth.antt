-- A run grows: each step appends to the transcript, and a run that is over stays over.
use Rattle.std.proofs.Common.{◌≡◌, inl, inr, ℕ, zero, suc, ◌+◌, ◌-◌, ◌*◌, ◌≤◌, Bool, true, false, not, nat_lt, nat_eq}
use Rattle.std.proofs.Common.{if◌then◌else◌, List, [], ◌∷◌, ◌++◌, length, slice_get, Option, Some, None, ℤ, pos}
use Rattle.std.proofs.Common.{negsuc, refl, sym, ap, ◌∙◌, append_assoc, append-nil, arith}
use Rattle.behavior.specs.Endings.{Stack, Heap, Stuck, IsMore}
use Rattle.behavior.specs.Transcripts.{mark, Shown, GoesOn}
use Rattle.behavior.specs.Same.{Grows}
use Rattle.tac_code.specs.declared.code.Block.{Block}
use Rattle.tac_code.specs.declared.code.Value.{Value}
use Rattle.tac_code.specs.declared.code.Value.TheVariants.{Number, Address, Routine}
use Rattle.tac_code.specs.declared.code.Instruction.{Instruction}
use Rattle.tac_code.specs.declared.code.Instruction.TheVariants.{Literal, Copy, Arithmetic, Bits, Compare, CheckRange}
use Rattle.tac_code.specs.declared.code.Instruction.TheVariants.{CheckPointer, Text, Offset, Index, RoutineValue, Load}
use Rattle.tac_code.specs.declared.code.Instruction.TheVariants.{Store, LoadByte, StoreByte, Jump, JumpBack, Branch}
use Rattle.tac_code.specs.declared.code.Instruction.TheVariants.{BranchBack, Call, CallValue, Return, Trap, Take, Put}
use Rattle.tac_code.specs.declared.code.Instruction.TheVariants.{New, End}
use Rattle.tac_code.specs.declared.code.TacRoutine.{TacRoutine}
use Rattle.tac_code.specs.Numbers.{Computed, Gives, Fails, computed, is_in_range, steps_above}
use Rattle.tac_code.specs.Memory.{load, load_byte, store, store_byte}
use Rattle.tac_code.specs.Meaning
use Rattle.tac_code.specs.Meaning.{Code, Activation, Tape, State, Step, Goes, Over, with_some, with_number}
use Rattle.tac_code.specs.Meaning.{with_address, with_routine, with_byte_value, text_at, related, operand_value}
use Rattle.tac_code.specs.Meaning.{base_value, onward, is_nil, fetch, goes_on, goes_to, routines, is_full, entered}
use Rattle.tac_code.specs.Meaning.{made, values_of, pointer_of, gives_address, gives_computed, gives_component, gives}
use Rattle.tac_code.specs.Meaning.{checks, leave, enter, calls, makes, act, step}
use Rattle.tac_code.specs.Run.{before, after, run, tac_run}
use Rattle.tac_code.specs.declared.code.TheConstants.{BLOCK_LIMIT}

-- after a step from s the transcript is that of s with something added
abbrev pub Extends : State → Step → Type 0
Extends s (Goes t) = (rest : List ℕ) × (t.tape.transcript ≡ s.tape.transcript ++ rest)
Extends s (Over e) = Unit {0}

nothing : (xs : List ℕ) → (rest : List ℕ) × (xs ≡ xs ++ rest)
nothing xs = ([], sym (append-nil xs))

some_extends : {A : Type 0} → (s : State) (o : Option A) (go : A → Step) → ((x : A) → Extends s (go x)) → Extends s
    (with_some o go)
some_extends s None go h = tt
some_extends s (Some x) go h = h x

number_extends : (s : State) (o : Option Value) (go : ℤ → Step) → ((x : ℤ) → Extends s (go x)) → Extends s
    (with_number o go)
number_extends s None go h = tt
number_extends s (Some (Number z)) go h = h z
number_extends s (Some (Address block offset)) go h = tt
number_extends s (Some (Routine r)) go h = tt

address_extends : (s : State) (o : Option Value) (go : Block → ℕ → Step) → ((b : Block) (n : ℕ) → Extends s (go b n))
    → Extends s (with_address o go)
address_extends s None go h = tt
address_extends s (Some (Number z)) go h = tt
address_extends s (Some (Address block offset)) go h = h block offset
address_extends s (Some (Routine r)) go h = tt

routine_extends : (s : State) (o : Option Value) (go : ℕ → Step) → ((r : ℕ) → Extends s (go r)) → Extends s
    (with_routine o go)
routine_extends s None go h = tt
routine_extends s (Some (Number z)) go h = tt
routine_extends s (Some (Address block offset)) go h = tt
routine_extends s (Some (Routine r)) go h = h r

if_extends : (s : State) (b : Bool) (x y : Step) → Extends s x → Extends s y → Extends s (if b then x else y)
if_extends s true x y p q = p
if_extends s false x y p q = q

byte_extends : (s : State) (z : ℤ) (go : ℕ → Step) → ((n : ℕ) → Extends s (go n)) → Extends s (with_byte_value z go)
byte_extends s (pos n) go h = if_extends s (nat_lt n 256) (go n) (Over Stuck) (h n) tt
byte_extends s (negsuc n) go h = tt

address_given : (s : State) (t : ℕ) (block : Block) (offset : ℕ) → Extends s (gives_address t block offset s)
address_given s t block offset =
    if_extends s (nat_lt offset BLOCK_LIMIT) (gives t (Address block offset) s) (Over Stuck)
    (nothing s.tape.transcript) tt

end_extends : (s : State) (b : Bool) → (rest : List ℕ)
    × ((Meaning.end_taken b s.tape).transcript ≡ s.tape.transcript ++ rest)
end_extends s true = nothing s.tape.transcript
end_extends s false = (mark ∷ [], refl)

taken : (s : State) (t : ℕ) (input : List ℕ) → Extends s (Meaning.takes t input s)
taken s t [] = end_extends s s.tape.ended
taken s t (b ∷ rest) = (mark ∷ [], refl)

left : (s : State) (v : Value) (callers : List Activation) → Extends s (leave v callers s)
left s v [] = tt
left s v (c ∷ cs) = nothing s.tape.transcript

module _ (code : Code) where
  computed_given : (s : State) (t : ℕ) (x : Computed) (line : ℕ) → Extends s (gives_computed code t x line s)
  computed_given s t (Gives z) line = nothing s.tape.transcript
  computed_given s t (Fails number) line = tt

  checked : (s : State) (b : Bool) (number line : ℕ) → Extends s (checks code b number line s)
  checked s true number line = nothing s.tape.transcript
  checked s false number line = tt

  component_given : (s : State) (b : Bool) (t : ℕ) (block : Block) (offset number line : ℕ) → Extends s
      (gives_component code b t block offset number line s)
  component_given s true t block offset number line = address_given s t block offset
  component_given s false t block offset number line = tt

module _ (code : Code) (F G : ℕ → ℕ) (S H : ℕ) where
  enter_extends : (s : State) (r : ℕ) (values : List Value) (result line : ℕ) (callers : List Activation) → Extends s
      (enter code F G S H r values result line callers s)
  enter_extends s r values result line callers =
      some_extends {A = TacRoutine} s (slice_get (routines code) r) _
      (λ routine. if_extends s (not (nat_eq (length values) routine.parameters)) (Over Stuck)
      (if is_full code F G S H r callers then Over (Stack routine.line) else Goes
      (entered code F G S H routine r values result line callers s)) tt
      (if_extends s (is_full code F G S H r callers) (Over (Stack routine.line))
      (Goes (entered code F G S H routine r values result line callers s)) tt (nothing s.tape.transcript)))

  calls_extend : (s : State) (t r : ℕ) (operands : List ℕ) (line : ℕ) → Extends s
      (calls code F G S H t r operands line s)
  calls_extend s t r operands line =
      some_extends {A = List Value} s (values_of s.current.temporaries operands) _
      (λ values. enter_extends s r values t line (onward s.current ∷ s.callers))

  makes_extend : (s : State) (t object_type bytes line : ℕ) → Extends s (makes code F G S H t object_type bytes line s)
  makes_extend s t object_type bytes line =
      if_extends s (nat_lt H (s.heap + G object_type)) (Over (Heap line))
      (Goes (made code F G S H t object_type bytes s)) tt (nothing s.tape.transcript)

  pub act_extends : (i : Option Instruction) (s : State) → Extends s (act code F G S H i s)
  act_extends None s = tt
  act_extends (Some (Literal t z)) s = nothing s.tape.transcript
  act_extends (Some (Copy t a)) s = some_extends s (s.current.temporaries a) _ (λ v. nothing s.tape.transcript)
  act_extends (Some (Arithmetic operator t a b number line)) s =
      number_extends s (s.current.temporaries a) _
      (λ x. number_extends s (operand_value s.current.temporaries b) _
      (λ y. computed_given code s t (computed operator number x y) line))
  act_extends (Some (Bits operator t a b)) s =
      number_extends s (s.current.temporaries a) _
      (λ x. number_extends s (operand_value s.current.temporaries b) _ (λ y. nothing s.tape.transcript))
  act_extends (Some (Compare relation t a b)) s =
      some_extends s (related relation (s.current.temporaries a) (operand_value s.current.temporaries b)) _
      (λ holds. nothing s.tape.transcript)
  act_extends (Some (CheckRange a low high number line)) s =
      number_extends s (s.current.temporaries a) _ (λ x. checked code s (is_in_range low high x) number line)
  act_extends (Some (CheckPointer a number line)) s =
      some_extends s (pointer_of (s.current.temporaries a)) _ (λ p. checked code s (not (is_nil p)) number line)
  act_extends (Some (Text t bytes)) s = nothing s.tape.transcript
  act_extends (Some (Offset t a n extent)) s =
      address_extends s (base_value s.current a) _ (λ block offset. address_given s t block (offset + n))
  act_extends (Some (Index t a i low high width number line)) s =
      address_extends s (base_value s.current a) _
      (λ block offset. number_extends s (s.current.temporaries i) _
      (λ x. component_given code s (is_in_range low high x) t block
      (offset + steps_above low x * width) number line))
  act_extends (Some (RoutineValue t r)) s = nothing s.tape.transcript
  act_extends (Some (Load t a n)) s =
      address_extends s (base_value s.current a) _
      (λ block offset. some_extends s (load (text_at code) s.memory block (offset + n)) _
      (λ v. nothing s.tape.transcript))
  act_extends (Some (Store a n b)) s =
      address_extends s (base_value s.current a) _
      (λ block offset. some_extends s (s.current.temporaries b) _
      (λ v. some_extends s (store s.memory block (offset + n) v) _ (λ m. nothing s.tape.transcript)))
  act_extends (Some (LoadByte t a n)) s =
      address_extends s (base_value s.current a) _
      (λ block offset. some_extends s (load_byte (text_at code) s.memory block (offset + n)) _
      (λ v. nothing s.tape.transcript))
  act_extends (Some (StoreByte a n b)) s =
      address_extends s (base_value s.current a) _
      (λ block offset. number_extends s (s.current.temporaries b) _
      (λ x. byte_extends s x _ (λ byte. some_extends s (store_byte s.memory block (offset + n) byte) _
      (λ m. nothing s.tape.transcript))))
  act_extends (Some (Jump n)) s = nothing s.tape.transcript
  act_extends (Some (JumpBack n)) s = nothing s.tape.transcript
  act_extends (Some (Branch relation a b n)) s =
      some_extends s (related relation (s.current.temporaries a) (operand_value s.current.temporaries b)) _
      (λ holds. if_extends s holds (goes_to (suc s.current.place + n) s) (goes_on s) (nothing s.tape.transcript)
      (nothing s.tape.transcript))
  act_extends (Some (BranchBack relation a b n)) s =
      some_extends s (related relation (s.current.temporaries a) (operand_value s.current.temporaries b)) _
      (λ holds. if_extends s holds (goes_to (s.current.place - n) s) (goes_on s) (nothing s.tape.transcript)
      (nothing s.tape.transcript))
  act_extends (Some (Call t r operands line)) s = calls_extend s t r operands line
  act_extends (Some (CallValue t a operands line)) s = routine_extends s (s.current.temporaries a) _
      (λ r. if_extends s (nat_lt r (length code.program)) (calls code F G S H t r operands line s) (Over Stuck)
      (calls_extend s t r operands line) tt)
  act_extends (Some (Return a)) s = some_extends s (s.current.temporaries a) _ (λ v. left s v s.callers)
  act_extends (Some (Trap number line)) s = tt
  act_extends (Some (Take t)) s = taken s t s.tape.input
  act_extends (Some (Put a)) s =
      number_extends s (s.current.temporaries a) _ (λ x. byte_extends s x _ (λ byte. (byte ∷ [], refl)))
  act_extends (Some (New t object_type line)) s =
      some_extends s (slice_get code.objects object_type) _ (λ bytes. makes_extend s t object_type bytes line)
  act_extends (Some End) s = tt

  after_extends : (x : Step) (s : State) (go : State → Shown) → Extends s x
      → ((t : State) → (rest : List ℕ) × ((go t).0 ≡ t.tape.transcript ++ rest)) → (rest : List ℕ)
      × ((after x s go).0 ≡ s.tape.transcript ++ rest)
  after_extends (Goes t) s go e h =
      (e.0 ++ (h t).0, (h t).1 ∙ ap (λ (xs : List ℕ). xs ++ (h t).0) e.1 ∙ append_assoc s.tape.transcript e.0 (h t).0)
  after_extends (Over e) s go _ h = nothing s.tape.transcript

  run_extends : (k : ℕ) (s : State) → (rest : List ℕ) × ((run code F G S H k s).0 ≡ s.tape.transcript ++ rest)
  run_extends zero s = nothing s.tape.transcript
  run_extends (suc k) s =
      after_extends (step code F G S H s) s (run code F G S H k)
      (act_extends (fetch code s.current.routine s.current.place) s) (λ t. run_extends k t)

  after_goes_on : (x : Step) (s : State) (go go' : State → Shown) → ((t : State) → GoesOn IsMore (go t) (go' t))
      → GoesOn IsMore (after x s go) (after x s go')
  after_goes_on (Goes t) s go go' h = h t
  after_goes_on (Over e) s go go' h = inl refl

  run_later : (m n : ℕ) → m ≤ n → (s : State) → GoesOn IsMore (run code F G S H m s) (run code F G S H n s)
  run_later zero n le s = inr (tt, run_extends n s)
  run_later (suc m) zero le s = absurd (omega arith)
  run_later (suc m) (suc n) le s =
      let below : m ≤ n = omega arith in after_goes_on (step code F G S H s) s (run code F G S H m) (run code F G S H n)
      (λ t. run_later m n below t)

  pub run_goes_on : (input : List ℕ) → Grows (tac_run code F G S H input)
  run_goes_on input zero zero le = inl refl
  run_goes_on input zero (suc n) le =
      inr (
        tt,
        after_extends (enter code F G S H 0 [] 0 0 [] (before input)) (before input) (run code F G S H n)
            (enter_extends (before input) 0 [] 0 0 []) (λ t. run_extends n t),
      )
  run_goes_on input (suc m) zero le = absurd (omega arith)
  run_goes_on input (suc m) (suc n) le =
      let below : m ≤ n = omega arith in after_goes_on (enter code F G S H 0 [] 0 0 [] (before input)) (before input)
      (run code F G S H m) (run code F G S H n) (λ t. run_later m n below t)
