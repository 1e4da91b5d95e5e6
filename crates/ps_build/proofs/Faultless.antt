-- An image that was built never reaches a machine fault: three-address code never ends in one, so neither does the
-- program that the code does, nor the image that does as the program means.
use Rattle.std.proofs.Common.{◌≡◌, inl, inr, ℕ, zero, suc, ◌+◌, ◌*◌, Bool, true, false, cond, not, nat_lt, nat_eq}
use Rattle.std.proofs.Common.{if◌then◌else◌, List, [], ◌∷◌, length, get_or, slice_get, Option, Some, None, ℤ, pos}
use Rattle.std.proofs.Common.{negsuc, ◌-◌, refl, sym, subst}
use Rattle.behavior.specs.Endings as ending
use Rattle.behavior.specs.Transcripts.{Shown, AreBytes, GoesOn}
use Rattle.behavior.proofs.Sameness.{same_has_converse}
use Rattle.tac_code.specs.declared.code.Block.{Block}
use Rattle.tac_code.specs.declared.code.Value.{Value}
use Rattle.tac_code.specs.declared.code.Value.TheVariants.{Number, Address, Routine}
use Rattle.tac_code.specs.declared.code.Instruction.{Instruction}
use Rattle.tac_code.specs.declared.code.Instruction.TheVariants.{Literal, Copy, Arithmetic, Bits, Compare, CheckRange}
use Rattle.tac_code.specs.declared.code.Instruction.TheVariants.{CheckPointer, Text, Offset, Index, RoutineValue, Load}
use Rattle.tac_code.specs.declared.code.Instruction.TheVariants.{Store, LoadByte, StoreByte, Jump, JumpBack, Branch}
use Rattle.tac_code.specs.declared.code.Instruction.TheVariants.{BranchBack, Call, CallValue, Return, Trap, Take, Put}
use Rattle.tac_code.specs.declared.code.Instruction.TheVariants.{New, End}
use Rattle.tac_code.specs.declared.code.TacRoutine.{TacRoutine}
use Rattle.tac_code.specs.Numbers.{Computed, Gives, Fails, computed, is_in_range, steps_above}
use Rattle.tac_code.specs.Memory.{load, load_byte, store, store_byte}
use Rattle.tac_code.specs.Meaning.{Code, Activation, State, Step, Goes, Over, with_some, with_number, with_address}
use Rattle.tac_code.specs.Meaning.{with_routine, with_byte_value, text_at, related, operand_value, base_value, onward}
use Rattle.tac_code.specs.Meaning.{is_nil, fetch, goes_on, goes_to, routines, is_full, entered, made, values_of}
use Rattle.tac_code.specs.Meaning.{pointer_of, gives_address, gives_computed, gives_component, gives, checks, takes}
use Rattle.tac_code.specs.Meaning.{leave, open_calls, fails, enter, calls, makes, act, step}
use Rattle.tac_code.specs.Run.{before, after, run, tac_run}
use Rattle.tac_code.specs.declared.code.TheConstants.{BLOCK_LIMIT}
use Rattle.tac_rt.specs.Bodies.{run_time_routines}
use Rattle.risc_image.specs.Image.{Image}
use Rattle.risc_load.specs.Shows.{frame_bytes, object_bytes, IsBudget}
use Rattle.risc_emit_laws.specs.Outcome.{image_outcome}
use Rattle.ps_tree.specs.Tree.{Program}
use Rattle.ps_meaning.specs.Run.{run_within}
use Rattle.ps_lower_code.specs.Programs.{code_of}
use Rattle.ps_lower_accepted.specs.Laws.{AcceptedFit}
use Rattle.ps_build.specs.declared.outcome.FaultKind.{FaultKind}
use Rattle.ps_build.specs.declared.outcome.Outcome.TheVariants.{Fault}
use Rattle.ps_build.specs.Headline.{DoesAsMeant}
use Rattle.ps_build.specs.Made.{IsCodeOf}
use Rattle.ps_build.specs.Runs.{outcome_told, Ends, Tells}
use Rattle.ps_build.specs.Laws.{CodeDoes, NeverFaults, GoesWithoutFault}
use Rattle.ps_build.proofs.Unbudgeted.{image_grows}
use Rattle.ps_build.proofs.Compiled.{fits_bytes}

abbrev IsFault : ending.Ending → Type 0
IsFault (ending.Fault kind) = Unit {0}
IsFault _ = ⊥

-- ---- steps of three-address code

-- a step that doesn't end in a fault
abbrev IsSound : Step → Type 0
IsSound (Goes t) = Unit {0}
IsSound (Over e) = IsFault e → ⊥

none : ⊥ → ⊥
none h = h

some_sound : {A : Type 0} → (o : Option A) (go : A → Step) → ((x : A) → IsSound (go x)) → IsSound (with_some o go)
some_sound None go h = none
some_sound (Some x) go h = h x

number_sound : (o : Option Value) (go : ℤ → Step) → ((x : ℤ) → IsSound (go x)) → IsSound (with_number o go)
number_sound None go h = none
number_sound (Some (Number z)) go h = h z
number_sound (Some (Address block offset)) go h = none
number_sound (Some (Routine r)) go h = none

address_sound : (o : Option Value) (go : Block → ℕ → Step) → ((b : Block) (n : ℕ) → IsSound (go b n)) → IsSound
    (with_address o go)
address_sound None go h = none
address_sound (Some (Number z)) go h = none
address_sound (Some (Address block offset)) go h = h block offset
address_sound (Some (Routine r)) go h = none

routine_sound : (o : Option Value) (go : ℕ → Step) → ((r : ℕ) → IsSound (go r)) → IsSound (with_routine o go)
routine_sound None go h = none
routine_sound (Some (Number z)) go h = none
routine_sound (Some (Address block offset)) go h = none
routine_sound (Some (Routine r)) go h = h r

if_sound : (b : Bool) (x y : Step) → IsSound x → IsSound y → IsSound (if b then x else y)
if_sound true x y p q = p
if_sound false x y p q = q

byte_sound : (z : ℤ) (go : ℕ → Step) → ((n : ℕ) → IsSound (go n)) → IsSound (with_byte_value z go)
byte_sound (pos n) go h = if_sound (nat_lt n 256) (go n) (Over ending.Stuck) (h n) none
byte_sound (negsuc n) go h = none

address_given : (s : State) (t : ℕ) (block : Block) (offset : ℕ) → IsSound (gives_address t block offset s)
address_given s t block offset = if_sound (nat_lt offset BLOCK_LIMIT) (gives t (Address block offset) s)
    (Over ending.Stuck) tt none

taken : (s : State) (t : ℕ) (input : List ℕ) → IsSound (takes t input s)
taken s t [] = tt
taken s t (b ∷ rest) = tt

left : (s : State) (v : Value) (callers : List Activation) → IsSound (leave v callers s)
left s v [] = none
left s v (c ∷ cs) = tt

by_number : (vain stack heap : Bool) (number line : ℕ) (lines : List ℕ) → IsFault (cond vain ending.Stuck
    (cond stack (ending.Stack line) (cond heap (ending.Heap line) (ending.failed number line lines)))) → ⊥
by_number true stack heap number line lines f = f
by_number false true heap number line lines f = f
by_number false false true number line lines f = f
by_number false false false number line lines f = f

module _ (code : Code) where
  failed : (number line : ℕ) (s : State) → IsSound (fails code number line s)
  failed number line s f = by_number (nat_eq number 0) (nat_eq number 12) (nat_eq number 13) number line
      (open_calls (length code.program) s.current s.callers) f

  computed_given : (s : State) (t : ℕ) (x : Computed) (line : ℕ) → IsSound (gives_computed code t x line s)
  computed_given s t (Gives z) line = tt
  computed_given s t (Fails number) line = failed number line s

  checked : (s : State) (b : Bool) (number line : ℕ) → IsSound (checks code b number line s)
  checked s true number line = tt
  checked s false number line = failed number line s

  component_given : (s : State) (b : Bool) (t : ℕ) (block : Block) (offset number line : ℕ) → IsSound
      (gives_component code b t block offset number line s)
  component_given s true t block offset number line = address_given s t block offset
  component_given s false t block offset number line = failed number line s

module _ (code : Code) (F G : ℕ → ℕ) (S H : ℕ) where
  enters : (s : State) (r : ℕ) (values : List Value) (result line : ℕ) (callers : List Activation) → IsSound
      (enter code F G S H r values result line callers s)
  enters s r values result line callers =
      some_sound {A = TacRoutine} (slice_get (routines code) r) _
      (λ routine. if_sound (not (nat_eq (length values) routine.parameters)) (Over ending.Stuck)
      (if is_full code F G S H r callers then Over (ending.Stack routine.line) else Goes
      (entered code F G S H routine r values result line callers s)) none
      (if_sound (is_full code F G S H r callers) (Over (ending.Stack routine.line))
      (Goes (entered code F G S H routine r values result line callers s)) none tt))

  called : (s : State) (t r : ℕ) (operands : List ℕ) (line : ℕ) → IsSound (calls code F G S H t r operands line s)
  called s t r operands line =
      some_sound {A = List Value} (values_of s.current.temporaries operands) _
      (λ values. enters s r values t line (onward s.current ∷ s.callers))

  made_sound : (s : State) (t object_type bytes line : ℕ) → IsSound (makes code F G S H t object_type bytes line s)
  made_sound s t object_type bytes line =
      if_sound (nat_lt H (s.heap + G object_type)) (Over (ending.Heap line))
      (Goes (made code F G S H t object_type bytes s)) none tt

  acts : (i : Option Instruction) (s : State) → IsSound (act code F G S H i s)
  acts None s = none
  acts (Some (Literal t z)) s = tt
  acts (Some (Copy t a)) s = some_sound (s.current.temporaries a) _ (λ v. tt)
  acts (Some (Arithmetic operator t a b number line)) s =
      number_sound (s.current.temporaries a) _
      (λ x. number_sound (operand_value s.current.temporaries b) _
      (λ y. computed_given code s t (computed operator number x y) line))
  acts (Some (Bits operator t a b)) s =
      number_sound (s.current.temporaries a) _ (λ x. number_sound (operand_value s.current.temporaries b) _ (λ y. tt))
  acts (Some (Compare relation t a b)) s =
      some_sound (related relation (s.current.temporaries a) (operand_value s.current.temporaries b)) _ (λ holds. tt)
  acts (Some (CheckRange a low high number line)) s =
      number_sound (s.current.temporaries a) _ (λ x. checked code s (is_in_range low high x) number line)
  acts (Some (CheckPointer a number line)) s =
      some_sound (pointer_of (s.current.temporaries a)) _ (λ p. checked code s (not (is_nil p)) number line)
  acts (Some (Text t bytes)) s = tt
  acts (Some (Offset t a n extent)) s =
      address_sound (base_value s.current a) _ (λ block offset. address_given s t block (offset + n))
  acts (Some (Index t a i low high width number line)) s =
      address_sound (base_value s.current a) _
      (λ block offset. number_sound (s.current.temporaries i) _
      (λ x. component_given code s (is_in_range low high x) t block
      (offset + steps_above low x * width) number line))
  acts (Some (RoutineValue t r)) s = tt
  acts (Some (Load t a n)) s =
      address_sound (base_value s.current a) _
      (λ block offset. some_sound (load (text_at code) s.memory block (offset + n)) _ (λ v. tt))
  acts (Some (Store a n b)) s =
      address_sound (base_value s.current a) _
      (λ block offset. some_sound (s.current.temporaries b) _
      (λ v. some_sound (store s.memory block (offset + n) v) _ (λ m. tt)))
  acts (Some (LoadByte t a n)) s =
      address_sound (base_value s.current a) _
      (λ block offset. some_sound (load_byte (text_at code) s.memory block (offset + n)) _ (λ v. tt))
  acts (Some (StoreByte a n b)) s =
      address_sound (base_value s.current a) _
      (λ block offset. number_sound (s.current.temporaries b) _
      (λ x. byte_sound x _ (λ byte. some_sound (store_byte s.memory block (offset + n) byte) _ (λ m. tt))))
  acts (Some (Jump n)) s = tt
  acts (Some (JumpBack n)) s = tt
  acts (Some (Branch relation a b n)) s =
      some_sound (related relation (s.current.temporaries a) (operand_value s.current.temporaries b)) _
      (λ holds. if_sound holds (goes_to (suc s.current.place + n) s) (goes_on s) tt tt)
  acts (Some (BranchBack relation a b n)) s =
      some_sound (related relation (s.current.temporaries a) (operand_value s.current.temporaries b)) _
      (λ holds. if_sound holds (goes_to (s.current.place - n) s) (goes_on s) tt tt)
  acts (Some (Call t r operands line)) s = called s t r operands line
  acts (Some (CallValue t a operands line)) s = routine_sound (s.current.temporaries a) _
      (λ r. if_sound (nat_lt r (length code.program)) (calls code F G S H t r operands line s) (Over ending.Stuck)
      (called s t r operands line) none)
  acts (Some (Return a)) s = some_sound (s.current.temporaries a) _ (λ v. left s v s.callers)
  acts (Some (Trap number line)) s = failed code number line s
  acts (Some (Take t)) s = taken s t s.tape.input
  acts (Some (Put a)) s = number_sound (s.current.temporaries a) _ (λ x. byte_sound x _ (λ byte. tt))
  acts (Some (New t object_type line)) s =
      some_sound (slice_get code.objects object_type) _ (λ bytes. made_sound s t object_type bytes line)
  acts (Some End) s = none

  -- ---- runs of three-address code

  after_step : (x : Step) (s : State) (go : State → Shown) → IsSound x → ((t : State) → IsFault (go t).1 → ⊥) → IsFault
      (after x s go).1 → ⊥
  after_step (Goes t) s go h k f = k t f
  after_step (Over e) s go h k f = h f

  run_never_faults : (k : ℕ) (s : State) → IsFault (run code F G S H k s).1 → ⊥
  run_never_faults zero s f = f
  run_never_faults (suc k) s f =
      after_step (step code F G S H s) s (run code F G S H k) (acts (fetch code s.current.routine s.current.place) s)
      (run_never_faults k) f

  code_never_faults : (input : List ℕ) (n : ℕ) → IsFault (tac_run code F G S H input n).1 → ⊥
  code_never_faults input zero f = f
  code_never_faults input (suc k) f =
      after_step (enter code F G S H 0 [] 0 0 [] (before input)) (before input) (run code F G S H k)
      (enters (before input) 0 [] 0 0 []) (run_never_faults k) f

-- ---- programs and images

-- whatever the program shows its code shows
meaning_never_faults : (checked : Program) (code : Code) → IsCodeOf checked code → (F G : List ℕ) (S H : ℕ)
    (input : List ℕ) → AreBytes input → (n : ℕ) → IsFault (run_within checked F G S H input n).1 → ⊥
meaning_never_faults checked code is F G S H input bytes n f =
    let shown = is.same F G S H input bytes n in
    code_never_faults code (λ r. get_or F r 0) (λ t. get_or G t 0) S H input shown.0
    (subst (λ (x : Shown). IsFault x.1) (sym shown.2) f)

not_more : (e : ending.Ending) → IsFault e → ending.IsMore e → ⊥
not_more (ending.Fault kind) f m = m
not_more _ f m = f

goes_alike : (x y : Shown) → GoesOn ending.IsMore x y → IsFault x.1 → IsFault y.1
goes_alike x y (inl e) f = subst (λ (z : Shown). IsFault z.1) e f
goes_alike x y (inr h) f = absurd (not_more x.1 f h.0)

-- whatever the image shows the program shows, or goes on to
image_never_faults : (checked : Program) (code : Code) (image : Image) → IsCodeOf checked code
    → DoesAsMeant checked image → (heap stack : ℕ) → IsBudget image heap stack → (input : List ℕ) → AreBytes input
    → (steps : ℕ) → IsFault (image_outcome image heap stack input steps).1 → ⊥
image_never_faults checked code image is does heap stack budget input bytes steps f =
    let F = frame_bytes image in
    let G = object_bytes image in
    let meant = run_within checked F G stack heap input in
    let shown = image_outcome image heap stack input in
    let back = same_has_converse meant shown (image_grows image heap stack input)
    (does.same heap stack budget input bytes) steps in
    meaning_never_faults checked code is F G stack heap input bytes back.0
    (goes_alike (shown steps) (meant back.0) back.1 f)

pub never_faults : AcceptedFit → CodeDoes → NeverFaults
never_faults accepted_fit code_does text bytes narrow compiles heap stack budget input are steps kind e =
    let checked = compiles.checked in
    let is = code_does checked (fits_bytes accepted_fit text checked narrow compiles.program) in
    image_never_faults checked (code_of run_time_routines checked) compiles.image is compiles.does heap stack budget
    input are steps (subst IsFault (sym e) tt)

-- ---- texts that are built and run

-- only a fault is reported as one
told_fault : (image : Image) (e : ending.Ending) (kind : FaultKind) → outcome_told image e ≡ Some (Fault kind)
    → (found : ending.FaultKind) × (e ≡ ending.Fault found)
told_fault image ending.More kind h = absurd (cc h)
told_fault image ending.Normal kind h = absurd (cc h)
told_fault image (ending.Error number line lines) kind h = absurd (cc h)
told_fault image (ending.Stack line) kind h = absurd (cc h)
told_fault image (ending.Heap line) kind h = absurd (cc h)
told_fault image (ending.Fault found) kind h = (found, refl)
told_fault image ending.Stuck kind h = absurd (cc h)

pub goes_without_fault : NeverFaults → GoesWithoutFault
goes_without_fault never text budget n old new outcome narrow goes tells kind e =
    let image = goes.compiles.image in
    let told = goes.runs.told tells.input tells.bytes tells.left in
    let ends : Ends image budget n tells.input old.output new (Fault kind) = subst
    (λ o. Tells o image budget n tells.input old.output new) e told in
    let found = told_fault image (image_outcome image budget.heap budget.stack tells.input n).1 kind ends.ending in
    never text goes.bytes narrow goes.compiles budget.heap budget.stack goes.runs.loaded tells.input tells.bytes n
    found.0 found.1
