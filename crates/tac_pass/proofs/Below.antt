-- All values of a run name frames of activations that there have been: so those that are passed name none of the one
-- that begins.
use Rattle.std.proofs.Common.{◌≡◌, ℕ, zero, suc, ◌+◌, ◌-◌, ◌*◌, ◌<◌, ℤ, pos, negsuc, Bool, true, false, not, nat_eq}
use Rattle.std.proofs.Common.{nat_lt, if◌then◌else◌, List, [], ◌∷◌, ◌++◌, length, slice_get, Option, Some, None, refl}
use Rattle.std.proofs.Common.{subst, arith}
use Rattle.std.proofs.lemmas.Option.{none-some, same_Some}
use Rattle.behavior.specs.Endings.{Stack, Heap, Stuck}
use Rattle.tac_code.specs.declared.code.Block.{Block}
use Rattle.tac_code.specs.declared.code.Block.TheVariants.{Frame, Scratch, Object, Constant}
use Rattle.tac_code.specs.declared.code.Value.{Value}
use Rattle.tac_code.specs.declared.code.Value.TheVariants.{Number, Address, Routine}
use Rattle.tac_code.specs.declared.code.Base.{Base}
use Rattle.tac_code.specs.declared.code.Base.TheVariants as base
use Rattle.tac_code.specs.declared.code.Instruction.{Instruction}
use Rattle.tac_code.specs.declared.code.Instruction.TheVariants.{Literal, Copy, Arithmetic, Bits, Compare, CheckRange}
use Rattle.tac_code.specs.declared.code.Instruction.TheVariants.{CheckPointer, Text, Offset, Index, RoutineValue, Load}
use Rattle.tac_code.specs.declared.code.Instruction.TheVariants.{Store, LoadByte, StoreByte, Jump, JumpBack, Branch}
use Rattle.tac_code.specs.declared.code.Instruction.TheVariants.{BranchBack, Call, CallValue, Return, Trap, Take, Put}
use Rattle.tac_code.specs.declared.code.Instruction.TheVariants.{New, End}
use Rattle.tac_code.specs.Numbers.{Computed, Gives, Fails, truth, computed, bits, is_in_range, steps_above}
use Rattle.tac_code.specs.Memory.{Words, Living, Memory, with_word, with_byte_at, load, load_byte, store, store_byte}
use Rattle.tac_code.specs.Meaning.{Code, Activation, State, Step, Goes, Over, act, put, with_some, with_number}
use Rattle.tac_code.specs.Meaning.{with_address, with_routine, with_byte_value, operand_value, base_value, and_more}
use Rattle.tac_code.specs.Meaning.{values_of, pointer_of, is_nil, related, gives, gives_address, gives_computed}
use Rattle.tac_code.specs.Meaning.{gives_component, checks, goes_on, goes_to, stores, takes, routines, calls, enter}
use Rattle.tac_code.specs.Meaning.{is_full, leave, without_first, made, makes, unwritten, onward, text_at}
use Rattle.tac_code.specs.declared.code.TheConstants.{BLOCK_LIMIT}
use Rattle.tac_pass.proofs.BelowWords.{AreBelow, BelowBlock, BelowBlocks, BelowCallers, BelowMemory, BelowObjects}
use Rattle.tac_pass.proofs.BelowWords.{BelowTemporaries, BelowWord, IsBelow, below_is, blocks_less, byte_keeps}
use Rattle.tac_pass.proofs.BelowWords.{callers_less, load_below, memory_below, objects_less, unwritten_below}
use Rattle.tac_pass.proofs.BelowWords.{word_keeps, word_less}

-- ---- steps

abbrev pub OnGoes : (State → Type 0) → Step → Type 0
OnGoes P (Goes t) = P t
OnGoes P (Over e) = Unit {0}

module _ (P : State → Type 0) where
  on_some : {A : Type 0} (o : Option A) (go : A → Step) → ((x : A) → o ≡ Some x → OnGoes P (go x)) → OnGoes P
      (with_some o go)
  on_some None go h = tt
  on_some (Some x) go h = h x refl

  on_number : (o : Option Value) (go : ℤ → Step) → ((x : ℤ) → OnGoes P (go x)) → OnGoes P (with_number o go)
  on_number None go h = tt
  on_number (Some (Number x)) go h = h x
  on_number (Some (Address block offset)) go h = tt
  on_number (Some (Routine r)) go h = tt

  on_address : (o : Option Value) (go : Block → ℕ → Step)
      → ((block : Block) (offset : ℕ) → o ≡ Some (Address block offset) → OnGoes P (go block offset)) → OnGoes P
      (with_address o go)
  on_address None go h = tt
  on_address (Some (Number x)) go h = tt
  on_address (Some (Address block offset)) go h = h block offset refl
  on_address (Some (Routine r)) go h = tt

  on_routine : (o : Option Value) (go : ℕ → Step) → ((r : ℕ) → OnGoes P (go r)) → OnGoes P (with_routine o go)
  on_routine None go h = tt
  on_routine (Some (Number x)) go h = tt
  on_routine (Some (Address block offset)) go h = tt
  on_routine (Some (Routine r)) go h = h r

  on_if : (b : Bool) (x y : Step) → OnGoes P x → OnGoes P y → OnGoes P (if b then x else y)
  on_if true x y f g = f
  on_if false x y f g = g

  on_byte : (z : ℤ) (go : ℕ → Step) → ((n : ℕ) → OnGoes P (go n)) → OnGoes P (with_byte_value z go)
  on_byte (pos n) go h = on_if (nat_lt n 256) (go n) (Over Stuck) (h n) tt
  on_byte (negsuc n) go h = tt

put_below : (n : ℕ) (ts : ℕ → Option Value) (t : ℕ) (v : Value) → BelowTemporaries n ts → IsBelow n v
    → BelowTemporaries n (put ts t v)
put_below n ts t v all b u = which (nat_eq u t)
  where
    which : (x : Bool) → BelowWord n (if x then Some v else ts u)
    which true = b
    which false = all u

pub values_below : (n : ℕ) (ts : ℕ → Option Value) (us : List ℕ) (vs : List Value) → BelowTemporaries n ts
    → values_of ts us ≡ Some vs → (k : ℕ) → BelowWord n (slice_get vs k)
values_below n ts [] vs all f k = subst (λ (vs : List Value). BelowWord n (slice_get vs k)) (same_Some [] vs f) tt
values_below n ts (u ∷ us) vs all f k = which (λ vs f. values_below n ts us vs all f) (ts u) refl
    (values_of ts us) refl f
  where
    place : (v : Value) (ws : List Value) → IsBelow n v → ((j : ℕ) → BelowWord n (slice_get ws j)) → (j : ℕ)
        → BelowWord n (slice_get (v ∷ ws) j)
    place v ws b rest zero = b
    place v ws b rest (suc j) = rest j

    which : ((vs : List Value) → values_of ts us ≡ Some vs → (k : ℕ) → BelowWord n (slice_get vs k))
        → (o : Option Value) → ts u ≡ o → (x : Option (List Value)) → values_of ts us ≡ x → and_more o x ≡ Some vs
        → BelowWord n (slice_get vs k)
    which again None e x g f = absurd (none-some vs f)
    which again (Some v) e None g f = absurd (none-some vs f)
    which again (Some v) e (Some ws) g f =
        subst (λ (vs : List Value). BelowWord n (slice_get vs k)) (same_Some (v ∷ ws) vs f)
        (place v ws (below_is n (ts u) v e (all u)) (again ws g) k)

appended_below : (n : ℕ) (bs : List Words) (bytes : ℕ) → BelowObjects n bs → BelowObjects n (bs ++ unwritten bytes ∷ [])
appended_below n [] bytes b = (unwritten_below n bytes, tt)
appended_below n (x ∷ xs) bytes b = (b.0, appended_below n xs bytes b.1)

first_below : (n : ℕ) (bs : List Living) → BelowBlocks n bs → BelowBlocks n (without_first bs)
first_below n [] b = tt
first_below n (x ∷ xs) b = b.1

module _ (code : Code) (F G : ℕ → ℕ) (S H : ℕ) (s : State) (b : AreBelow s) where
  abbrev Below : Step → Type 0
  Below x = OnGoes AreBelow x

  base_below : (x : Base) (v : Value) → base_value s.current x ≡ Some v → IsBelow s.count v
  base_below base.Frame v f = below_is s.count (base_value s.current base.Frame) v f b.number
  base_below base.Scratch v f = below_is s.count (base_value s.current base.Scratch) v f tt
  base_below base.Program v f = below_is s.count (base_value s.current base.Program) v f
      (let l = b.number in omega (arith, l))
  base_below (base.Temporary t) v f = below_is s.count (s.current.temporaries t) v f (b.temporaries t)

  gives_below : (t : ℕ) (v : Value) → IsBelow s.count v → Below (gives t v s)
  gives_below t v x = record {
    number = b.number;
    temporaries = put_below s.count s.current.temporaries t v b.temporaries x;
    callers = b.callers;
    memory = b.memory;
  }

  goes_below : (q : ℕ) → Below (goes_to q s)
  goes_below q = record { number = b.number; temporaries = b.temporaries; callers = b.callers; memory = b.memory }

  stores_below : (m : Memory) → BelowMemory s.count m → Below (stores m s)
  stores_below m x = record { number = b.number; temporaries = b.temporaries; callers = b.callers; memory = x }

  address_below : (t : ℕ) (block : Block) (o : ℕ) → BelowBlock s.count block → Below (gives_address t block o s)
  address_below t block o x = on_if AreBelow (nat_lt o BLOCK_LIMIT) (gives t (Address block o) s) (Over Stuck)
      (gives_below t (Address block o) x) tt

  computed_below : (t : ℕ) (x : Computed) (line : ℕ) → Below (gives_computed code t x line s)
  computed_below t (Gives z) line = gives_below t (Number z) tt
  computed_below t (Fails number) line = tt

  component_below : (within : Bool) (t : ℕ) (block : Block) (o number line : ℕ) → BelowBlock s.count block → Below
      (gives_component code within t block o number line s)
  component_below true t block o number line x = address_below t block o x
  component_below false t block o number line x = tt

  checks_below : (holds : Bool) (number line : ℕ) → Below (checks code holds number line s)
  checks_below true number line = goes_below (suc s.current.place)
  checks_below false number line = tt

  takes_below : (t : ℕ) (input : List ℕ) → Below (takes t input s)
  takes_below t [] = record {
    number = b.number;
    temporaries = put_below s.count s.current.temporaries t (Number (negsuc 0)) b.temporaries tt;
    callers = b.callers;
    memory = b.memory;
  }
  takes_below t (x ∷ rest) = record {
    number = b.number;
    temporaries = put_below s.count s.current.temporaries t (Number (pos x)) b.temporaries tt;
    callers = b.callers;
    memory = b.memory;
  }

  makes_below : (t object_type bytes line : ℕ) → Below (makes code F G S H t object_type bytes line s)
  makes_below t object_type bytes line =
      on_if AreBelow (nat_lt H (s.heap + G object_type)) (Over (Heap line))
      (Goes (made code F G S H t object_type bytes s)) tt (record {
        number = b.number;
        temporaries = put_below s.count s.current.temporaries t
            (Address (Object (length s.memory.objects)) 0) b.temporaries tt;
        callers = b.callers;
        memory = record {
          frames = b.memory.frames;
          scratch = b.memory.scratch;
          objects = appended_below s.count s.memory.objects bytes b.memory.objects;
        };
      })

  enters_below : (r : ℕ) (vs : List Value) (t line : ℕ) → ((k : ℕ) → BelowWord s.count (slice_get vs k)) → Below
      (enter code F G S H r vs t line (onward s.current ∷ s.callers) s)
  enters_below r vs t line all =
      on_some AreBelow (slice_get (routines code) r) _ (λ routine _.
      on_if AreBelow (not (nat_eq (length vs) routine.parameters)) (Over Stuck) _ tt
      (on_if AreBelow (is_full code F G S H r (onward s.current ∷ s.callers)) (Over (Stack routine.line)) _ tt (record {
        number = omega arith;
        temporaries = λ u. word_less s.count (slice_get vs u) (all u);
        callers = (
          let l = b.number in omega (arith, l),
          λ u. word_less s.count (s.current.temporaries u)
              (b.temporaries u),
          callers_less s.count s.callers b.callers,
        );
        memory = record {
          frames = (unwritten_below (suc s.count) routine.frame, blocks_less s.count s.memory.frames b.memory.frames);
          scratch = (
            unwritten_below (suc s.count) routine.scratch,
            blocks_less s.count s.memory.scratch
                b.memory.scratch,
          );
          objects = objects_less s.count s.memory.objects b.memory.objects;
        };
      })))

  calls_below : (t r : ℕ) (operands : List ℕ) (line : ℕ) → Below (calls code F G S H t r operands line s)
  calls_below t r operands line =
      on_some AreBelow (values_of s.current.temporaries operands) _
      (λ vs f. enters_below r vs t line (values_below s.count s.current.temporaries operands vs b.temporaries f))

  leaves_below : (v : Value) (cs : List Activation) → BelowCallers s.count cs → IsBelow s.count v → Below (leave v cs s)
  leaves_below v [] c x = tt
  leaves_below v (w ∷ ws) c x = record {
    number = c.0;
    temporaries = put_below s.count w.temporaries s.current.result v c.1 x;
    callers = c.2;
    memory = record {
      frames = first_below s.count s.memory.frames b.memory.frames;
      scratch = first_below s.count s.memory.scratch b.memory.scratch;
      objects = b.memory.objects;
    };
  }

  pub below_follows : (o : Option Instruction) → Below (act code F G S H o s)
  below_follows None = tt
  below_follows (Some (Literal t z)) = gives_below t (Number z) tt
  below_follows (Some (Copy t a)) =
      on_some AreBelow (s.current.temporaries a) _
      (λ v f. gives_below t v (below_is s.count (s.current.temporaries a) v f (b.temporaries a)))
  below_follows (Some (Arithmetic operator t a x number line)) =
      on_number AreBelow (s.current.temporaries a) _
      (λ y. on_number AreBelow (operand_value s.current.temporaries x) _
      (λ z. computed_below t (computed operator number y z) line))
  below_follows (Some (Bits operator t a x)) =
      on_number AreBelow (s.current.temporaries a) _
      (λ y. on_number AreBelow (operand_value s.current.temporaries x) _
      (λ z. gives_below t (Number (bits operator y z)) tt))
  below_follows (Some (Compare relation t a x)) =
      on_some AreBelow (related relation (s.current.temporaries a) (operand_value s.current.temporaries x)) _
      (λ holds _. gives_below t (Number (truth holds)) tt)
  below_follows (Some (CheckRange a low high number line)) =
      on_number AreBelow (s.current.temporaries a) _ (λ x. checks_below (is_in_range low high x) number line)
  below_follows (Some (CheckPointer a number line)) =
      on_some AreBelow (pointer_of (s.current.temporaries a)) _ (λ x _. checks_below (not (is_nil x)) number line)
  below_follows (Some (Text t bytes)) = gives_below t (Address (Constant s.current.routine s.current.place) 0) tt
  below_follows (Some (Offset t a n extent)) =
      on_address AreBelow (base_value s.current a) _
      (λ block o f. address_below t block (o + n) (base_below a (Address block o) f))
  below_follows (Some (Index t a i low high width number line)) =
      on_address AreBelow (base_value s.current a) _
      (λ block o f. on_number AreBelow (s.current.temporaries i) _
      (λ x. component_below (is_in_range low high x) t block (o + steps_above low x * width) number line
      (base_below a (Address block o) f)))
  below_follows (Some (RoutineValue t r)) = gives_below t (Routine r) tt
  below_follows (Some (Load t a n)) =
      on_address AreBelow (base_value s.current a) _
      (λ block o _. on_some AreBelow (load (text_at code) s.memory block (o + n)) _
      (λ v f. gives_below t v (load_below s.count (text_at code) s.memory block (o + n) v b.memory f)))
  below_follows (Some (Store a n x)) =
      on_address AreBelow (base_value s.current a) _
      (λ block o _. on_some AreBelow (s.current.temporaries x) _
      (λ v f. on_some AreBelow (store s.memory block (o + n) v) _ (λ m g.
      stores_below m (memory_below s.count (λ ws. with_word ws (o + n) v)
      (word_keeps s.count (o + n) v (below_is s.count (s.current.temporaries x) v f (b.temporaries x))) s.memory
      block m b.memory g))))
  below_follows (Some (LoadByte t a n)) =
      on_address AreBelow (base_value s.current a) _
      (λ block o _. on_some AreBelow (load_byte (text_at code) s.memory block (o + n)) _
      (λ byte _. gives_below t (Number (pos byte)) tt))
  below_follows (Some (StoreByte a n x)) =
      on_address AreBelow (base_value s.current a) _
      (λ block o _. on_number AreBelow (s.current.temporaries x) _
      (λ z. on_byte AreBelow z _ (λ byte. on_some AreBelow (store_byte s.memory block (o + n) byte) _ (λ m g.
      stores_below m (memory_below s.count (λ ws. with_byte_at ws (o + n) byte)
      (byte_keeps s.count (o + n) byte) s.memory block m b.memory g)))))
  below_follows (Some (Jump n)) = goes_below (suc s.current.place + n)
  below_follows (Some (JumpBack n)) = goes_below (s.current.place - n)
  below_follows (Some (Branch relation a x n)) =
      on_some AreBelow (related relation (s.current.temporaries a) (operand_value s.current.temporaries x)) _
      (λ holds _. on_if AreBelow holds (goes_to (suc s.current.place + n) s) (goes_on s)
      (goes_below (suc s.current.place + n)) (goes_below (suc s.current.place)))
  below_follows (Some (BranchBack relation a x n)) =
      on_some AreBelow (related relation (s.current.temporaries a) (operand_value s.current.temporaries x)) _
      (λ holds _. on_if AreBelow holds (goes_to (s.current.place - n) s) (goes_on s)
      (goes_below (s.current.place - n)) (goes_below (suc s.current.place)))
  below_follows (Some (Call t r operands line)) = calls_below t r operands line
  below_follows (Some (CallValue t a operands line)) =
      on_routine AreBelow (s.current.temporaries a) _
      (λ r. on_if AreBelow (nat_lt r (length code.program)) (calls code F G S H t r operands line s) (Over Stuck)
      (calls_below t r operands line) tt)
  below_follows (Some (Return a)) =
      on_some AreBelow (s.current.temporaries a) _
      (λ v f. leaves_below v s.callers b.callers (below_is s.count (s.current.temporaries a) v f (b.temporaries a)))
  below_follows (Some (Trap number line)) = tt
  below_follows (Some (Take t)) = takes_below t s.tape.input
  below_follows (Some (Put a)) =
      on_number AreBelow (s.current.temporaries a) _ (λ z. on_byte AreBelow z _ (λ byte. record {
        number = b.number;
        temporaries = b.temporaries;
        callers = b.callers;
        memory = b.memory;
      }))
  below_follows (Some (New t object_type line)) =
      on_some AreBelow (slice_get code.objects object_type) _ (λ bytes _. makes_below t object_type bytes line)
  below_follows (Some End) = tt

-- ---- what is passed

pub passed_away : (n o : ℕ) (x : Option Value) → BelowWord n x → x ≡ Some (Address (Frame n) o) → ⊥
passed_away n o x b f = let l : n < n = below_is n x (Address (Frame n) o) f b in omega (arith, l)
