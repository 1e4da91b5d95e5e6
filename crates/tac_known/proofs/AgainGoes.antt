-- What is held stays held from step to step.
use Rattle.std.proofs.Common.{◌≡◌, inl, inr, ℕ, suc, ◌+◌, ◌-◌, ◌*◌, Bool, true, false, not, nat_eq, nat_lt}
use Rattle.std.proofs.Common.{if◌then◌else◌, List, [], ◌∷◌, length, slice_get, Option, Some, None, ℤ, pos, negsuc}
use Rattle.std.proofs.Common.{refl, sym, subst}
use Rattle.behavior.specs.Endings.{Stack, Heap, Stuck}
use Rattle.tac_code.specs.declared.code.Block.{Block}
use Rattle.tac_code.specs.declared.code.Block.TheVariants.{Object, Constant}
use Rattle.tac_code.specs.declared.code.Base.{Base}
use Rattle.tac_code.specs.declared.code.Base.TheVariants as base
use Rattle.tac_code.specs.declared.code.Value.{Value}
use Rattle.tac_code.specs.declared.code.Value.TheVariants.{Number, Address, Routine}
use Rattle.tac_code.specs.declared.code.Instruction.{Instruction}
use Rattle.tac_code.specs.declared.code.Instruction.TheVariants.{Literal, Copy, Arithmetic, Bits, Compare, CheckRange}
use Rattle.tac_code.specs.declared.code.Instruction.TheVariants.{CheckPointer, Text, Offset, Index, RoutineValue, Load}
use Rattle.tac_code.specs.declared.code.Instruction.TheVariants.{Store, LoadByte, StoreByte, Jump, JumpBack, Branch}
use Rattle.tac_code.specs.declared.code.Instruction.TheVariants.{BranchBack, Call, CallValue, Return, Trap, Take, Put}
use Rattle.tac_code.specs.declared.code.Instruction.TheVariants.{New, End}
use Rattle.tac_code.specs.Numbers.{Computed, Gives, Fails, computed, bits, truth, is_in_range, steps_above}
use Rattle.tac_code.specs.Memory.{Constants, Memory, load, load_byte, store, store_byte}
use Rattle.tac_code.specs.Meaning.{Code, Activation, State, Step, Goes, Over, routines, with_address}
use Rattle.tac_code.specs.Meaning.{operand_value, base_value, pointer_of, is_nil, related, giving, gives, gives_address}
use Rattle.tac_code.specs.Meaning.{gives_computed, gives_component, checks, goes_on, goes_to, stores, takes, values_of}
use Rattle.tac_code.specs.Meaning.{is_full, calls, leave, made, makes, act, onward, text_at}
use Rattle.tac_code.specs.declared.code.TheConstants.{BLOCK_LIMIT}
use Rattle.tac_pass.proofs.Below.{OnGoes}
use Rattle.tac_known.specs.declared.again.Component.{Component}
use Rattle.tac_known.specs.declared.again.Sum.{Sum}
use Rattle.tac_known.specs.declared.again.Word.{Word}
use Rattle.tac_known.specs.declared.again.Fact.TheVariants.{Pointed, Summed, Loaded}
use Rattle.tac_known.specs.declared.again.Facts.{Facts}
use Rattle.tac_known.specs.Again.{AreHeld, no_facts, each_unless_written, component, total, after_given, IsNoMore}
use Rattle.tac_known.specs.Again.{each_unless_loaded, word, GoesOn}
use Rattle.tac_known.proofs.Goes.{on_some, on_number, on_routine, on_if, on_byte}
use Rattle.tac_known.proofs.AgainLike.{are_like}
use Rattle.tac_known.proofs.AgainHeld.{each_kept, each_lost, index_kept, sum_kept, word_kept}

-- what follows from nothing is nothing
no_more_of_none : (next : Facts) → IsNoMore no_facts next → next ≡ no_facts
no_more_of_none next (inl e) = e
no_more_of_none next (inr e) = e

module _ (constants : Constants) (m : Memory) where
  -- nothing is held in any activation
  none : (facts : Facts) (current : Activation) → facts ≡ no_facts → AreHeld constants m facts current
  none facts current e =
      subst (λ o. AreHeld constants m o current) (sym e) (record {
        first = tt;
        second = tt;
        third = tt;
        fourth = tt;
        fifth = tt;
        sixth = tt;
        seventh = tt;
        eighth = tt;
        ninth = tt;
        tenth = tt;
        eleventh = tt;
        twelfth = tt;
      })

  no_more : (here next : Facts) (current : Activation) → IsNoMore here next → AreHeld constants m here current →
      AreHeld constants m next current
  no_more here next current (inl e) h = none next current e
  no_more here next current (inr e) h = subst (λ o. AreHeld constants m o current) (sym e) h

  -- the place doesn't matter
  moved : (facts : Facts) (current : Activation) (q : ℕ) → AreHeld constants m facts current → AreHeld constants m facts
      (record current { place = q })
  moved facts current q is = are_like constants m facts current (record current { place = q }) (λ u. refl) same is
    where
      same : (b : Base) → base_value (record current { place = q }) b ≡ base_value current b
      same base.Frame = refl
      same base.Scratch = refl
      same base.Program = refl
      same (base.Temporary t) = refl

on_based : (P : State → Type 0) (o : Option Value) (go : Block → ℕ → Step)
    → ((block : Block) (offset : ℕ) → o ≡ Some (Address block offset) → OnGoes P (go block offset))
    → OnGoes P (with_address o go)
on_based P None go h = tt
on_based P (Some (Number x)) go h = tt
on_based P (Some (Address block offset)) go h = h block offset refl
on_based P (Some (Routine r)) go h = tt

on_test : (P : State → Type 0) (b : Bool) (x y : Step) → (b ≡ true → OnGoes P x) → OnGoes P y → OnGoes P
    (if b then x else y)
on_test P true x y f g = f refl
on_test P false x y f g = g

module _ (helds : ℕ → ℕ → Facts) (code : Code) where
  -- of callers nothing is known where they go on
  abbrev pub CallersRest : List Activation → Type 0
  CallersRest [] = Unit {0}
  CallersRest (c ∷ cs) = (helds c.routine c.place ≡ no_facts) × CallersRest cs

  pub record IsKept (s : State) : Type 0 where
    pub here : AreHeld (text_at code) s.memory (helds s.current.routine s.current.place) s.current
    pub callers : CallersRest s.callers

  module _ (begins : (r : ℕ) → helds r 0 ≡ no_facts) (F G : ℕ → ℕ) (S H : ℕ) (s : State) (kept : IsKept s) where
    abbrev now : Facts
    now = helds s.current.routine s.current.place

    abbrev next : Facts
    next = helds s.current.routine (suc s.current.place)

    abbrev Goes_on : Step → Type 0
    Goes_on x = OnGoes IsKept x

    gives_kept : (t : ℕ) (v : Value) → IsNoMore (each_unless_written t now) next → Goes_on (gives t v s)
    gives_kept t v l = record {
      here = no_more (text_at code) s.memory (each_unless_written t now) next (giving t v s.current) l
          (each_kept (text_at code) s.memory now s.current t v kept.here);
      callers = kept.callers;
    }

    goes_kept : (q : ℕ) → IsNoMore now (helds s.current.routine q) → Goes_on (goes_to q s)
    goes_kept q l = record {
      here = no_more (text_at code) s.memory now (helds s.current.routine q) (record s.current { place = q }) l
          (moved (text_at code) s.memory now s.current q kept.here);
      callers = kept.callers;
    }

    stays_kept : IsNoMore now next → AreHeld (text_at code) s.memory next (onward s.current)
    stays_kept l =
        no_more (text_at code) s.memory now next (onward s.current) l
        (moved (text_at code) s.memory now s.current (suc s.current.place) kept.here)

    on_kept : IsNoMore now next → Goes_on (goes_on s)
    on_kept l = record { here = stays_kept l; callers = kept.callers }

    stores_kept : (m : Memory) → IsNoMore (each_unless_loaded now) next → Goes_on (stores m s)
    stores_kept m l = record {
      here = no_more (text_at code) m (each_unless_loaded now) next (onward s.current) l
          (moved (text_at code) m (each_unless_loaded now) s.current (suc s.current.place)
          (each_lost (text_at code) s.memory m now s.current kept.here));
      callers = kept.callers;
    }

    fetch_kept : (d : Word) (block : Block) (o : ℕ) (v : Value) → base_value s.current d.base ≡ Some (Address block o)
        → load (text_at code) s.memory block (o + d.offset) ≡ Some v
        → IsNoMore (after_given now d.holder (Loaded d)) next → Goes_on (gives d.holder v s)
    fetch_kept d block o v e f l = record {
      here = no_more (text_at code) s.memory (after_given now d.holder (Loaded d)) next (giving d.holder v s.current) l
          (word_kept (text_at code) s.memory now d s.current v kept.here
          (record { block = block; offset = o; based = e; loaded = f }));
      callers = kept.callers;
    }

    address_kept : (t : ℕ) (block : Block) (o : ℕ) → IsNoMore (each_unless_written t now) next → Goes_on
        (gives_address t block o s)
    address_kept t block o l =
        on_if IsKept (nat_lt o BLOCK_LIMIT) (gives t (Address block o) s) (Over Stuck)
        (gives_kept t (Address block o) l) tt

    computed_kept : (d : Sum) (x y : ℤ) (r : Computed) (line : ℕ) → s.current.temporaries d.left ≡ Some (Number x)
        → operand_value s.current.temporaries d.right ≡ Some (Number y) → computed d.operator d.error x y ≡ r
        → IsNoMore (after_given now d.holder (Summed d)) next → Goes_on (gives_computed code d.holder r line s)
    computed_kept d x y (Gives z) line e f g l = record {
      here = no_more (text_at code) s.memory (after_given now d.holder (Summed d)) next
          (giving d.holder (Number z) s.current) l
          (sum_kept (text_at code) s.memory now d s.current z kept.here
          (record { left = x; right = y; first = e; second = f; fits = g }));
      callers = kept.callers;
    }
    computed_kept d x y (Fails number) line e f g l = tt

    checks_kept : (b : Bool) (number line : ℕ) → IsNoMore now next → Goes_on (checks code b number line s)
    checks_kept true number line l = on_kept l
    checks_kept false number line l = tt

    component_kept : (d : Component) (block : Block) (offset : ℕ) (x : ℤ) (number line : ℕ)
        → base_value s.current d.base ≡ Some (Address block offset) → s.current.temporaries d.index ≡ Some (Number x)
        → IsNoMore (after_given now d.holder (Pointed d)) next → (b : Bool) → is_in_range d.low d.high x ≡ b
        → Goes_on (gives_component code b d.holder block (offset + steps_above d.low x * d.width) number line s)
    component_kept d block offset x number line e f l false g = tt
    component_kept d block offset x number line e f l true g =
        on_test IsKept (nat_lt (offset + steps_above d.low x * d.width) BLOCK_LIMIT)
        (gives d.holder (Address block (offset + steps_above d.low x * d.width)) s) (Over Stuck)
        (λ near. record {
          here = no_more (text_at code) s.memory (after_given now d.holder (Pointed d)) next
              (giving d.holder (Address block (offset + steps_above d.low x * d.width)) s.current) l
              (index_kept (text_at code) s.memory now d s.current
              (Address block (offset + steps_above d.low x * d.width)) kept.here (record {
                block = block;
                offset = offset;
                index = x;
                based = e;
                indexed = f;
                inside = g;
                near = near;
                value = refl;
              }));
          callers = kept.callers;
        }) tt

    takes_kept : (t : ℕ) (input : List ℕ) → IsNoMore (each_unless_written t now) next → Goes_on (takes t input s)
    takes_kept t [] l = record {
      here = no_more (text_at code) s.memory (each_unless_written t now) next
          (giving t (Number (negsuc 0)) s.current) l
          (each_kept (text_at code) s.memory now s.current t (Number (negsuc 0)) kept.here);
      callers = kept.callers;
    }
    takes_kept t (x ∷ rest) l = record {
      here = no_more (text_at code) s.memory (each_unless_written t now) next (giving t (Number (pos x)) s.current) l
          (each_kept (text_at code) s.memory now s.current t (Number (pos x)) kept.here);
      callers = kept.callers;
    }

    makes_kept : (t object_type bytes line : ℕ) → IsNoMore (each_unless_written t (each_unless_loaded now)) next
        → Goes_on (makes code F G S H t object_type bytes line s)
    makes_kept t object_type bytes line l =
        on_if IsKept (nat_lt H (s.heap + G object_type)) (Over (Heap line))
        (Goes (made code F G S H t object_type bytes s)) tt (record {
          here = no_more (text_at code) (made code F G S H t object_type bytes s).memory
              (each_unless_written t (each_unless_loaded now)) next
              (giving t (Address (Object (length s.memory.objects)) 0) s.current) l
              (each_kept (text_at code) (made code F G S H t object_type bytes s).memory (each_unless_loaded now)
              s.current t (Address (Object (length s.memory.objects)) 0)
              (each_lost (text_at code) s.memory (made code F G S H t object_type bytes s).memory now s.current
              kept.here));
          callers = kept.callers;
        })

    calls_kept : (t r : ℕ) (operands : List ℕ) (line : ℕ) → IsNoMore no_facts next → Goes_on
        (calls code F G S H t r operands line s)
    calls_kept t r operands line l =
        on_some IsKept (values_of s.current.temporaries operands) _ (λ values _.
        on_some IsKept (slice_get (routines code) r) _ (λ routine _.
        on_if IsKept (not (nat_eq (length values) routine.parameters)) (Over Stuck) _ tt
        (on_if IsKept (is_full code F G S H r (onward s.current ∷ s.callers)) (Over (Stack routine.line)) _ tt (record {
          here = none (text_at code) _ (helds r 0) _ (begins r);
          callers = (no_more_of_none next l, kept.callers);
        }))))

    leaves_kept : (v : Value) (cs : List Activation) → CallersRest cs → Goes_on (leave v cs s)
    leaves_kept v [] w = tt
    leaves_kept v (c ∷ cs) w = record {
      here = none (text_at code) _ (helds c.routine c.place) _ w.0;
      callers = w.1;
    }

    branch_kept : (q : ℕ) → IsNoMore now (helds s.current.routine q) → IsNoMore now next → (holds : Bool)
        → Goes_on (if holds then goes_to q s else goes_on s)
    branch_kept q e l true = goes_kept q e
    branch_kept q e l false = on_kept l

    pub held_follows : (i : Instruction) → GoesOn (helds s.current.routine) s.current.place i → Goes_on
        (act code F G S H (Some i) s)
    held_follows (Literal t z) l = gives_kept t (Number z) l
    held_follows (Copy t a) l = on_some IsKept (s.current.temporaries a) _ (λ v e. gives_kept t v l)
    held_follows (Arithmetic operator t a b error line) l =
        on_number IsKept (s.current.temporaries a) _ (λ x e. on_number IsKept (operand_value s.current.temporaries b) _
        (λ y f. computed_kept (total operator t a b error) x y (computed operator error x y) line e f refl l))
    held_follows (Bits operator t a b) l =
        on_number IsKept (s.current.temporaries a) _ (λ x e. on_number IsKept (operand_value s.current.temporaries b) _
        (λ y f. gives_kept t (Number (bits operator x y)) l))
    held_follows (Compare relation t a b) l =
        on_some IsKept (related relation (s.current.temporaries a) (operand_value s.current.temporaries b)) _
        (λ holds _. gives_kept t (Number (truth holds)) l)
    held_follows (CheckRange a low high error line) l =
        on_number IsKept (s.current.temporaries a) _ (λ x e. checks_kept (is_in_range low high x) error line l)
    held_follows (CheckPointer a error line) l =
        on_some IsKept (pointer_of (s.current.temporaries a)) _ (λ p e. checks_kept (not (is_nil p)) error line l)
    held_follows (Text t bytes) l = gives_kept t (Address (Constant s.current.routine s.current.place) 0) l
    held_follows (Offset t b n extent) l =
        on_based IsKept (base_value s.current b) _ (λ block o _. address_kept t block (o + n) l)
    held_follows (Index t b i low high width error line) l =
        on_based IsKept (base_value s.current b) _ (λ block o e. on_number IsKept (s.current.temporaries i) _
        (λ x f. component_kept (component t b i low high width) block o x error line e f l
        (is_in_range low high x) refl))
    held_follows (RoutineValue t r) l = gives_kept t (Routine r) l
    held_follows (Load t b n) l =
        on_based IsKept (base_value s.current b) _
        (λ block o e. on_some IsKept (load (text_at code) s.memory block (o + n)) _
        (λ v f. fetch_kept (word t b n) block o v e f l))
    held_follows (Store b n a) l =
        on_based IsKept (base_value s.current b) _ (λ block o _. on_some IsKept (s.current.temporaries a) _
        (λ v _. on_some IsKept (store s.memory block (o + n) v) _ (λ m _. stores_kept m l)))
    held_follows (LoadByte t b n) l =
        on_based IsKept (base_value s.current b) _
        (λ block o _. on_some IsKept (load_byte (text_at code) s.memory block (o + n)) _
        (λ byte _. gives_kept t (Number (pos byte)) l))
    held_follows (StoreByte b n a) l =
        on_based IsKept (base_value s.current b) _ (λ block o _. on_number IsKept (s.current.temporaries a) _
        (λ x _. on_byte IsKept x _
        (λ byte. on_some IsKept (store_byte s.memory block (o + n) byte) _ (λ m _. stores_kept m l))))
    held_follows (Jump n) l = goes_kept (suc s.current.place + n) l
    held_follows (JumpBack n) l = goes_kept (s.current.place - n) (inl l)
    held_follows (Branch relation a b n) l =
        on_some IsKept (related relation (s.current.temporaries a) (operand_value s.current.temporaries b)) _
        (λ holds e. branch_kept (suc s.current.place + n) l.0 l.1 holds)
    held_follows (BranchBack relation a b n) l =
        on_some IsKept (related relation (s.current.temporaries a) (operand_value s.current.temporaries b)) _
        (λ holds e. branch_kept (s.current.place - n) (inl l.0) l.1 holds)
    held_follows (Call t r operands line) l = calls_kept t r operands line l
    held_follows (CallValue t a operands line) l =
        on_routine IsKept (s.current.temporaries a) _
        (λ r. on_if IsKept (nat_lt r (length code.program)) (calls code F G S H t r operands line s) (Over Stuck)
        (calls_kept t r operands line l) tt)
    held_follows (Return a) l =
        on_some IsKept (s.current.temporaries a) _ (λ v _. leaves_kept v s.callers kept.callers)
    held_follows (Trap number line) l = tt
    held_follows (Take t) l = takes_kept t s.tape.input l
    held_follows (Put a) l =
        on_number IsKept (s.current.temporaries a) _ (λ x _. on_byte IsKept x _
        (λ byte. record { here = stays_kept l; callers = kept.callers }))
    held_follows (New t object_type line) l =
        on_some IsKept (slice_get code.objects object_type) _ (λ bytes _. makes_kept t object_type bytes line l)
    held_follows End l = tt
