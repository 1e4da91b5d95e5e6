-- What is known of the order of temporaries stays true from step to step.
use Rattle.std.proofs.Common.{◌≡◌, ℕ, suc, ◌+◌, ◌-◌, ◌*◌, Bool, true, false, not, nat_eq, nat_lt, if◌then◌else◌, List}
use Rattle.std.proofs.Common.{[], ◌∷◌, length, slice_get, Option, Some, None, ℤ, pos, negsuc, refl, subst}
use Rattle.behavior.specs.Endings.{Stack, Heap, Stuck}
use Rattle.tac_code.specs.declared.code.Block.{Block}
use Rattle.tac_code.specs.declared.code.Block.TheVariants.{Object, Constant}
use Rattle.tac_code.specs.declared.code.Operand.{Operand}
use Rattle.tac_code.specs.declared.code.Relation.{Relation}
use Rattle.tac_code.specs.declared.code.Value.{Value}
use Rattle.tac_code.specs.declared.code.Value.TheVariants.{Number, Address, Routine}
use Rattle.tac_code.specs.declared.code.Instruction.{Instruction}
use Rattle.tac_code.specs.declared.code.Instruction.TheVariants.{Literal, Copy, Arithmetic, Bits, Compare, CheckRange}
use Rattle.tac_code.specs.declared.code.Instruction.TheVariants.{CheckPointer, Text, Offset, Index, RoutineValue, Load}
use Rattle.tac_code.specs.declared.code.Instruction.TheVariants.{Store, LoadByte, StoreByte, Jump, JumpBack, Branch}
use Rattle.tac_code.specs.declared.code.Instruction.TheVariants.{BranchBack, Call, CallValue, Return, Trap, Take, Put}
use Rattle.tac_code.specs.declared.code.Instruction.TheVariants.{New, End}
use Rattle.tac_code.specs.Numbers.{Computed, Gives, Fails, computed, bits, truth, is_in_range, steps_above}
use Rattle.tac_code.specs.Memory.{Memory, load, load_byte, store, store_byte}
use Rattle.tac_code.specs.Meaning.{Temporaries, Code, Activation, State, Step, Goes, Over, routines, put, operand_value}
use Rattle.tac_code.specs.Meaning.{base_value, pointer_of, is_nil, related, gives, gives_address, gives_computed}
use Rattle.tac_code.specs.Meaning.{gives_component, checks, goes_on, goes_to, stores, takes, values_of, is_full, calls}
use Rattle.tac_code.specs.Meaning.{leave, made, makes, act, onward, text_at}
use Rattle.tac_pass.proofs.Below.{OnGoes}
use Rattle.tac_known.specs.declared.kind.Kind.{Kind}
use Rattle.tac_known.specs.declared.order.Orders.{Orders}
use Rattle.tac_known.specs.Kinds.{IsOf, kind_in, Hold, opposite}
use Rattle.tac_known.specs.Orders.{AreOrdered, without, copied, combined, orders_where, say_all, no_orders, OrdersLead}
use Rattle.tac_known.proofs.Goes.{on_some, on_number, on_address, on_routine, on_if, on_byte}
use Rattle.tac_known.proofs.Ordered.{without_is, copied_is, combined_is}
use Rattle.tac_known.proofs.OrdersBranched.{opposite_holds, where_is}
use Rattle.tac_known.proofs.OrdersImplied.{less_ordered}
use Rattle.tac_known.proofs.OrdersImplied.{nothing_ordered}

module _ (ord : ℕ → ℕ → Orders) where
  -- of callers nothing is known where they go on
  abbrev pub OrdersWait : List Activation → Type 0
  OrdersWait [] = Unit {0}
  OrdersWait (c ∷ cs) = ((ts : Temporaries) → AreOrdered ts (ord c.routine c.place)) × OrdersWait cs

  pub record AreKnown (s : State) : Type 0 where
    pub here : AreOrdered s.current.temporaries (ord s.current.routine s.current.place)
    pub callers : OrdersWait s.callers

  module _ (begins : (r : ℕ) (ts : Temporaries) → AreOrdered ts (ord r 0)) (code : Code) (F G : ℕ → ℕ) (S H : ℕ)
      (s : State) (known : AreKnown s) (at : ℕ → List Kind)
      (hold : Hold (at s.current.place) s.current.temporaries) where
    abbrev ks : List Kind
    ks = at s.current.place

    abbrev here : Orders
    here = ord s.current.routine s.current.place

    abbrev next : Orders
    next = ord s.current.routine (suc s.current.place)

    abbrev Goes_on : Step → Type 0
    Goes_on x = OnGoes AreKnown x

    gives_ordered : (t : ℕ) (v : Value) (orders : Orders) → say_all orders next ≡ true → AreOrdered
        (put s.current.temporaries t v) orders → Goes_on (gives t v s)
    gives_ordered t v orders l h = record {
      here = less_ordered (put s.current.temporaries t v) orders next l h;
      callers = known.callers;
    }

    gives_lost : (t : ℕ) (v : Value) → say_all (without t here) next ≡ true → Goes_on (gives t v s)
    gives_lost t v l = gives_ordered t v (without t here) l (without_is s.current.temporaries t v here known.here)

    goes_ordered : (q : ℕ) (orders : Orders) → say_all orders (ord s.current.routine q) ≡ true → AreOrdered
        s.current.temporaries orders → Goes_on (goes_to q s)
    goes_ordered q orders l h = record {
      here = less_ordered s.current.temporaries orders (ord s.current.routine q) l h;
      callers = known.callers;
    }

    stores_ordered : (m : Memory) → say_all here next ≡ true → Goes_on (stores m s)
    stores_ordered m l = record {
      here = less_ordered s.current.temporaries here next l known.here;
      callers = known.callers;
    }

    address_ordered : (t : ℕ) (block : Block) (o : ℕ) → say_all (without t here) next ≡ true → Goes_on
        (gives_address t block o s)
    address_ordered t block o l =
        on_if AreKnown (nat_lt o 2147483648) (gives t (Address block o) s) (Over Stuck)
        (gives_lost t (Address block o) l) tt

    computed_ordered : (t : ℕ) (x : Computed) (line : ℕ) → say_all (without t here) next ≡ true → Goes_on
        (gives_computed code t x line s)
    computed_ordered t (Gives z) line l = gives_lost t (Number z) l
    computed_ordered t (Fails number) line l = tt

    checks_ordered : (b : Bool) (number line : ℕ) → say_all here next ≡ true → Goes_on (checks code b number line s)
    checks_ordered true number line l = goes_ordered (suc s.current.place) here l known.here
    checks_ordered false number line l = tt

    component_ordered : (b : Bool) (t : ℕ) (block : Block) (o number line : ℕ) → say_all (without t here) next ≡ true
        → Goes_on (gives_component code b t block o number line s)
    component_ordered true t block o number line l =
        on_if AreKnown (nat_lt o 2147483648) (gives t (Address block o) s) (Over Stuck)
        (gives_lost t (Address block o) l) tt
    component_ordered false t block o number line l = tt

    takes_ordered : (t : ℕ) (input : List ℕ) → say_all (without t here) next ≡ true → Goes_on (takes t input s)
    takes_ordered t [] l = record {
      here = less_ordered (put s.current.temporaries t (Number (negsuc 0))) (without t here) next l
          (without_is s.current.temporaries t (Number (negsuc 0)) here known.here);
      callers = known.callers;
    }
    takes_ordered t (x ∷ rest) l = record {
      here = less_ordered (put s.current.temporaries t (Number (pos x))) (without t here) next l
          (without_is s.current.temporaries t (Number (pos x)) here known.here);
      callers = known.callers;
    }

    makes_ordered : (t object_type bytes line : ℕ) → say_all (without t here) next ≡ true → Goes_on
        (makes code F G S H t object_type bytes line s)
    makes_ordered t object_type bytes line l =
        on_if AreKnown (nat_lt H (s.heap + G object_type)) (Over (Heap line))
        (Goes (made code F G S H t object_type bytes s)) tt (record {
          here = less_ordered (put s.current.temporaries t (Address (Object (length s.memory.objects)) 0))
              (without t here) next l
              (without_is s.current.temporaries t (Address (Object (length s.memory.objects)) 0) here known.here);
          callers = known.callers;
        })

    calls_ordered : (t r : ℕ) (operands : List ℕ) (line : ℕ) → say_all no_orders next ≡ true → Goes_on
        (calls code F G S H t r operands line s)
    calls_ordered t r operands line l =
        on_some AreKnown (values_of s.current.temporaries operands) _ (λ values _.
        on_some AreKnown (slice_get (routines code) r) _ (λ routine _.
        on_if AreKnown (not (nat_eq (length values) routine.parameters)) (Over Stuck) _ tt
        (on_if AreKnown (is_full code F G S H r (onward s.current ∷ s.callers)) (Over (Stack routine.line)) _ tt
        (record {
          here = begins r (λ t. slice_get values t);
          callers = ((λ ts. nothing_ordered ts next l), known.callers);
        }))))

    leaves_ordered : (v : Value) (cs : List Activation) → OrdersWait cs → Goes_on (leave v cs s)
    leaves_ordered v [] w = tt
    leaves_ordered v (c ∷ cs) w = record {
      here = w.0 (put c.temporaries s.current.result v);
      callers = w.1;
    }

    branch_ordered : (relation : Relation) (a : ℕ) (b : Operand) (q : ℕ)
        → say_all (orders_where here relation a b) (ord s.current.routine q) ≡ true
        → say_all (orders_where here (opposite relation) a b) next ≡ true → (holds : Bool)
        → related relation (s.current.temporaries a) (operand_value s.current.temporaries b) ≡ Some holds
        → Goes_on (if holds then goes_to q s else goes_on s)
    branch_ordered relation a b q l m true e =
        goes_ordered q (orders_where here relation a b) l (where_is s.current.temporaries here known.here relation a b
        e)
    branch_ordered relation a b q l m false e =
        goes_ordered (suc s.current.place) (orders_where here (opposite relation) a b) m
        (where_is s.current.temporaries here known.here (opposite relation) a b
        (opposite_holds relation (s.current.temporaries a) (operand_value s.current.temporaries b) e))

    pub orders_follow : (i : Instruction) → OrdersLead at (ord s.current.routine) s.current.place i → Goes_on
        (act code F G S H (Some i) s)
    orders_follow (Literal t z) l = gives_lost t (Number z) l
    orders_follow (Copy t a) l =
        on_some AreKnown (s.current.temporaries a) _
        (λ v e. gives_ordered t v (copied t a here) l (copied_is s.current.temporaries t a v here e known.here))
    orders_follow (Arithmetic operator t a b error line) l =
        on_number AreKnown (s.current.temporaries a) _ (λ x _. on_number AreKnown
        (operand_value s.current.temporaries b) _
        (λ y _. computed_ordered t (computed operator error x y) line l))
    orders_follow (Bits operator t a b) l =
        on_number AreKnown (s.current.temporaries a) _ (λ x e. on_number AreKnown
        (operand_value s.current.temporaries b) _
        (λ y f. gives_ordered t (Number (bits operator x y)) (combined (kind_in ks a) operator t a b here) l
        (combined_is s.current.temporaries operator t a b x y (kind_in ks a) here e f
        (subst (IsOf (kind_in ks a)) e (hold a)) known.here)))
    orders_follow (Compare relation t a b) l =
        on_some AreKnown (related relation (s.current.temporaries a) (operand_value s.current.temporaries b)) _
        (λ holds _. gives_lost t (Number (truth holds)) l)
    orders_follow (CheckRange a low high error line) l =
        on_number AreKnown (s.current.temporaries a) _ (λ x _. checks_ordered (is_in_range low high x) error line l)
    orders_follow (CheckPointer a error line) l =
        on_some AreKnown (pointer_of (s.current.temporaries a)) _
        (λ p _. checks_ordered (not (is_nil p)) error line l)
    orders_follow (Text t bytes) l = gives_lost t (Address (Constant s.current.routine s.current.place) 0) l
    orders_follow (Offset t b n extent) l =
        on_address AreKnown (base_value s.current b) _ (λ block o. address_ordered t block (o + n) l)
    orders_follow (Index t b i low high width error line) l =
        on_address AreKnown (base_value s.current b) _ (λ block o. on_number AreKnown (s.current.temporaries i) _
        (λ x _. component_ordered (is_in_range low high x) t block (o + steps_above low x * width) error line l))
    orders_follow (RoutineValue t r) l = gives_lost t (Routine r) l
    orders_follow (Load t b n) l =
        on_address AreKnown (base_value s.current b) _
        (λ block o. on_some AreKnown (load (text_at code) s.memory block (o + n)) _ (λ v _. gives_lost t v l))
    orders_follow (Store b n a) l =
        on_address AreKnown (base_value s.current b) _ (λ block o. on_some AreKnown (s.current.temporaries a) _
        (λ v _. on_some AreKnown (store s.memory block (o + n) v) _ (λ m _. stores_ordered m l)))
    orders_follow (LoadByte t b n) l =
        on_address AreKnown (base_value s.current b) _
        (λ block o. on_some AreKnown (load_byte (text_at code) s.memory block (o + n)) _
        (λ byte _. gives_lost t (Number (pos byte)) l))
    orders_follow (StoreByte b n a) l =
        on_address AreKnown (base_value s.current b) _ (λ block o. on_number AreKnown (s.current.temporaries a) _
        (λ x _. on_byte AreKnown x _
        (λ byte. on_some AreKnown (store_byte s.memory block (o + n) byte) _ (λ m _. stores_ordered m l))))
    orders_follow (Jump n) l = goes_ordered (suc s.current.place + n) here l known.here
    orders_follow (JumpBack n) l = goes_ordered (s.current.place - n) here l known.here
    orders_follow (Branch relation a b n) l =
        on_some AreKnown (related relation (s.current.temporaries a) (operand_value s.current.temporaries b)) _
        (λ holds e. branch_ordered relation a b (suc s.current.place + n) l.0 l.1 holds e)
    orders_follow (BranchBack relation a b n) l =
        on_some AreKnown (related relation (s.current.temporaries a) (operand_value s.current.temporaries b)) _
        (λ holds e. branch_ordered relation a b (s.current.place - n) l.0 l.1 holds e)
    orders_follow (Call t r operands line) l = calls_ordered t r operands line l
    orders_follow (CallValue t a operands line) l =
        on_routine AreKnown (s.current.temporaries a) _
        (λ r. on_if AreKnown (nat_lt r (length code.program)) (calls code F G S H t r operands line s) (Over Stuck)
        (calls_ordered t r operands line l) tt)
    orders_follow (Return a) l =
        on_some AreKnown (s.current.temporaries a) _ (λ v _. leaves_ordered v s.callers known.callers)
    orders_follow (Trap number line) l = tt
    orders_follow (Take t) l = takes_ordered t s.tape.input l
    orders_follow (Put a) l =
        on_number AreKnown (s.current.temporaries a) _ (λ x _. on_byte AreKnown x _ (λ byte. record {
          here = less_ordered s.current.temporaries here next l known.here;
          callers = known.callers;
        }))
    orders_follow (New t object_type line) l =
        on_some AreKnown (slice_get code.objects object_type) _ (λ bytes _. makes_ordered t object_type bytes line l)
    orders_follow End l = tt
